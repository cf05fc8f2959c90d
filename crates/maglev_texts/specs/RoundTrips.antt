-- Numbers, addresses and members are read from what is printed of them, and from nothing else.
use Rattle.std.specs.Prelude.{◌≡◌, ◌<◌, ◌≤◌, ◌^◌, ℕ, true, false, List, [], ◌++◌, Some, if◌then◌else◌, codes}
use Rattle.std.specs.Fmt.{decimal}
use Rattle.pool_versions.specs.declared.backend.Member.{Member}
use Rattle.backend_names.specs.NameText.{is_name}
use Rattle.maglev_texts.specs.Parsing.{decimal_of, address_of, member_of, weighed_member_of, stated_member_of}
use Rattle.maglev_texts.specs.Printing.{address_text, backend_text}

abbrev pub DecimalsAreReadBack : Type 0
DecimalsAreReadBack = (limit n : ℕ) → limit < 2 ^ 40 → n ≤ limit → decimal_of limit (decimal n) ≡ Some n

abbrev pub OnlyDecimalsAreRead : Type 0
OnlyDecimalsAreRead = (limit n : ℕ) (text : List ℕ) → limit < 2 ^ 40 → decimal_of limit text ≡ Some n → (text ≡ decimal n) × (n ≤ limit)

abbrev pub AddressesAreReadBack : Type 0
AddressesAreReadBack = (a : ℕ) → a < 2 ^ 32 → address_of (address_text a) ≡ Some a

abbrev pub OnlyAddressesAreRead : Type 0
OnlyAddressesAreRead = (a : ℕ) (text : List ℕ) → address_of text ≡ Some a → (text ≡ address_text a) × (a < 2 ^ 32)

-- `NAME@ADDRESS`, with `/down` after it where it is down
abbrev pub member_text : Member → List ℕ
member_text m = backend_text m.backend ++ (if m.up then [] else codes "/down")

abbrev pub MembersAreReadBack : Type 0
MembersAreReadBack = (m : Member) → m.weight ≡ 1 → m.draining ≡ false → is_name m.backend.name ≡ true → m.backend.addr < 2 ^ 32 →
    member_of (member_text m) ≡ Some m

abbrev pub OnlyMembersAreRead : Type 0
OnlyMembersAreRead = (m : Member) (text : List ℕ) → member_of text ≡ Some m → (text ≡ member_text m) × (m.weight ≡ 1) × (is_name m.backend.name ≡ true)
    × (m.backend.addr < 2 ^ 32) × (m.draining ≡ false)

-- `NAME@ADDRESS*W`, with `/down` after it where it is down
abbrev pub weighed_text : Member → List ℕ
weighed_text m = backend_text m.backend ++ (codes "*" ++ (decimal m.weight ++ (if m.up then [] else codes "/down")))

abbrev pub WeighedMembersAreReadBack : Type 0
WeighedMembersAreReadBack = (m : Member) → 1 ≤ m.weight → m.weight ≤ 16 → m.draining ≡ false → is_name m.backend.name ≡ true → m.backend.addr < 2 ^ 32 →
    weighed_member_of (weighed_text m) ≡ Some m

-- a member word means the same where weights are allowed
abbrev pub MemberWordsMeanTheSame : Type 0
MemberWordsMeanTheSame = (m : Member) (text : List ℕ) → member_of text ≡ Some m → weighed_member_of text ≡ Some m

-- `/drain` where it drains, `/down` where it is down
abbrev pub state_text : Member → List ℕ
state_text m = if m.up then [] else (if m.draining then codes "/drain" else codes "/down")

-- `NAME@ADDRESS*W`, with its state after it where it isn't up
abbrev pub stated_text : Member → List ℕ
stated_text m = backend_text m.backend ++ (codes "*" ++ (decimal m.weight ++ state_text m))

abbrev pub StatedMembersAreReadBack : Type 0
StatedMembersAreReadBack = (m : Member) → 1 ≤ m.weight → m.weight ≤ 16 → (m.up ≡ true → m.draining ≡ false) → is_name m.backend.name ≡ true →
    m.backend.addr < 2 ^ 32 → stated_member_of (stated_text m) ≡ Some m

-- a word that may bear a weight means the same where members may drain, and says of none that it drains
abbrev pub WeighedWordsMeanTheSame : Type 0
WeighedWordsMeanTheSame = (m : Member) (text : List ℕ) → weighed_member_of text ≡ Some m → (stated_member_of text ≡ Some m) × (m.draining ≡ false)
