-- Drafts have a bad word exactly where they are refused as BadMember.
use Rattle.std.proofs.Common.{◌≡◌, ℕ, ◌+◌, List, [], ◌∷◌, ◌++◌, Option, is_some, Result, Ok, Err, refl}
use Rattle.pool_versions.specs.declared.backend.Member.{Member}
use Rattle.version_drafts.specs.Plain.{PlainVersion}
use Rattle.version_drafts.specs.Drafts.{PlainVersionDraft}
use Rattle.scenario_pools.specs.Writing.{written_out, left_by_version, most_places, after_version, written_behind, versions_of}
use Rattle.scenario_pools.specs.BadWords.{bad_in_version, bad_or_behind, bad_word_from, bad_word_of, is_bad_member, BadWordsAreBadMembers}
use Rattle.scenario_pools.specs.declared.bad_words.BadWord.{BadWord}
use Rattle.scenario_pools.specs.declared.fault.PoolsFault.{PoolsFault}
use Rattle.scenario_pools.specs.declared.fault.PoolsFault.TheVariants as fault

one_version : (v : ℕ) (here : BadWord) (rest : PlainVersion Member → Option (ℕ × BadWord)) (later : PlainVersion Member → Result (List (PlainVersion Member)) PoolsFault)
    → ((w : PlainVersion Member) → is_some (rest w) ≡ is_bad_member (later w)) → (r : Result (PlainVersion Member) PoolsFault) → is_some (bad_or_behind v here rest r) ≡ is_bad_member (after_version r later)
one_version v here rest later same (Ok w) = same w
one_version v here rest later same (Err fault.BadMember) = refl
one_version v here rest later same (Err fault.TooMany) = refl
one_version v here rest later same (Err fault.Memory) = refl

from_there : (room : ℕ) (earlier : List (PlainVersion Member)) (v : ℕ) (ds : List PlainVersionDraft) → is_some (bad_word_from room earlier v ds) ≡ is_bad_member (written_behind room earlier ds)
from_there room earlier v [] = refl
from_there room earlier v (d ∷ ds) =
    one_version v (bad_in_version earlier d d.base) (λ w. bad_word_from (left_by_version room w) (earlier ++ w ∷ []) (v + 1) ds) (λ w. written_behind (left_by_version room w) (earlier ++ w ∷ []) ds)
    (λ w. from_there (left_by_version room w) (earlier ++ w ∷ []) (v + 1) ds) (written_out room earlier d)

pub bad_words_are_bad_members : BadWordsAreBadMembers
unfolding bad_word_of versions_of
bad_words_are_bad_members ds = from_there most_places [] 0 ds
