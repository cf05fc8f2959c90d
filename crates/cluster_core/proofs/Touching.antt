-- What stands for a flow is what its last packet was told.
use Rattle.std.proofs.Common.{◌≡◌, ℕ, Bool, false, Option, Some, None, ap, ◌∙◌}
use Rattle.std.specs.Prelude.{if◌then◌else◌}
use Rattle.five_tuple.specs.declared.Flow.{Flow}
use Rattle.pool_versions.specs.declared.backend.Backend.{Backend}
use Rattle.connection_table.specs.declared.table.Entry.{Entry}
use Rattle.connection_table.specs.Touches.{Touch}
use Rattle.selection.specs.Candidates.{Candidates}
use Rattle.forwarder.specs.declared.Choice.{Choice}
use Rattle.forwarder.specs.declared.Choice.TheVariants.{Forward}
use Rattle.forwarder.specs.Serving.{Pick, Serving, Reply, kept, told_asked, told_by, told_under, serve_as}

abbrev pub Tells : Serving → Reply → Type 0
Tells s t = (b : Backend) (v : ℕ) → t.choice ≡ Forward b v → s.refused ≡ false → t.touch ≡ Some (s.flow, record { backend = b; version = v; last = t.clock })

choice_parts : (b c : Backend) (v o : ℕ) → ◌≡◌ {A = Choice} (Forward b v) (Forward c o) → (b ≡ c) × (v ≡ o)
choice_parts b c v o e = ((cc), (cc))

entry_touch : (x : Flow) (b c : Backend) (v o clock : ℕ) → ◌≡◌ {A = Choice} (Forward b v) (Forward c o) → ◌≡◌ {A = Option Touch} (Some (x, record { backend = b; version = v; last = clock })) (Some (x, record { backend = c; version = o; last = clock }))
entry_touch x b c v o clock e =
    let p : (b ≡ c) × (v ≡ o) = choice_parts b c v o e in
    ap (λ (d : Backend). let t : Option Touch = Some (x, record { backend = d; version = v; last = clock }) in t) p.0 ∙ ap (λ (n : ℕ). let t : Option Touch = Some (x, record { backend = c; version = n; last = clock }) in t) p.1

asked_tells : (clock : ℕ) (s : Serving) (stood : Option Entry) (o : Option Backend) → Tells s (told_asked clock s stood o)
asked_tells clock s stood None = λ b v e f. absurd (cc)
asked_tells clock s (Some d) (Some a) = λ b v e f. entry_touch s.flow a b s.version v clock e
asked_tells clock s None (Some a) = λ b v e f.
    ap (λ (q : Bool). let t : Option Touch = (if q then None else Some (s.flow, record { backend = a; version = s.version; last = clock })) in t) f ∙ entry_touch s.flow a b s.version v clock e

by_tells : (pick : Pick) (clock : ℕ) (s : Serving) (ups : Candidates) (stood k : Option Entry) (turn : ℕ) → Tells s (told_by pick clock s ups stood k turn)
by_tells pick clock s ups stood (Some e) turn = λ b v h f. entry_touch s.flow e.backend b e.version v clock h
by_tells pick clock s ups stood None turn = asked_tells clock s stood (pick ups s.flow turn)

under_tells : (pick : Pick) (clock : ℕ) (s : Serving) (o : Option Candidates) (stood : Option Entry) (turn : ℕ) → Tells s (told_under pick clock s o stood turn)
under_tells pick clock s None stood turn = λ b v e f. absurd (cc)
under_tells pick clock s (Some ups) stood turn = by_tells pick clock s ups stood (kept stood ups) turn

-- a packet that was sent leaves its backend and origin as its flow's touch, unless a new entry was refused
pub serve_tells : (pick : Pick) (clock : ℕ) (s : Serving) (stood : Option Entry) (turn : ℕ) → Tells s (serve_as pick clock s stood turn)
serve_tells pick clock s stood turn = under_tells pick clock s s.ups stood turn
