-- What is sent of a list, item by item, and the packets of a list of records.
use Rattle.std.proofs.Common.{◌≡◌, ◌<◌, ◌≤◌, ℕ, ◌+◌, Bool, zero, suc, List, [], ◌∷◌, ◌++◌, length, map, take, drop, get_or, Option, Some, sym, ap, ◌∙◌, subst, append-nil, take-append-drop}
use Rattle.std.specs.List.{flat_map, slice_get}
use Rattle.std.proofs.lemmas.List.{take_more, take_all, map_push}
use Rattle.std.proofs.lemmas.List.Concat.{flat_map-append}
use Rattle.std.proofs.lemmas.Option.{none-some, get_or_from_slice_get}
use Rattle.ip_headers.specs.declared.Link.{Link}
use Rattle.pcap_file.specs.Device.{Tape}
use Rattle.pcap_file.specs.Format.{Record}
use Rattle.cluster_node.specs.declared.packets.Packet.{Packet}
use Rattle.cluster_node.specs.Records.{WasRead}
use Rattle.cluster_core.proofs.Frames.{was_read}
use Rattle.cluster_core.specs.Cluster.{WereRead}
use Rattle.simulation.specs.declared.fault.SimulationFault.{SimulationFault}
use Rattle.simulation.specs.Sent.{Sending, Wrote, WroteUntil, packet_in, packets_of, time_of}
use Rattle.simulation.proofs.Sends.{wrote_both, until_more, until_behind}

module _ {X : Type 0} (f : X → List Sending) (xs : List X) (i : ℕ) (x : X) (lt : i < length xs) (is : x ≡ get_or xs i x) where
  front : take (i + 1) xs ≡ take i xs ++ x ∷ []
  front = take_more xs i x lt ∙ ap (λ (y : X). take i xs ++ y ∷ []) (sym is)

  sent_more : flat_map f (take (i + 1) xs) ≡ flat_map f (take i xs) ++ f x
  sent_more = ap (flat_map f) front ∙ flat_map-append f (take i xs) (x ∷ []) ∙ ap (λ (l : List Sending). flat_map f (take i xs) ++ l) (append-nil (f x))

  sent_whole : flat_map f xs ≡ (flat_map f (take i xs) ++ f x) ++ flat_map f (drop (i + 1) xs)
  sent_whole = ap (flat_map f) (sym (take-append-drop (i + 1) xs)) ∙ flat_map-append f (take (i + 1) xs) (drop (i + 1) xs) ∙ ap (λ (l : List Sending). l ++ flat_map f (drop (i + 1) xs)) sent_more

  -- one item more was written
  pub wrote_more : (a b c : Tape) → Wrote a b (flat_map f (take i xs)) → Wrote b c (f x) → Wrote a c (flat_map f (take (i + 1) xs))
  wrote_more a b c h k = subst (λ (l : List Sending). Wrote a c l) (sym sent_more) (wrote_both a b c (flat_map f (take i xs)) (f x) h k)

  -- the writing stopped inside an item
  pub cut_at : (fault : SimulationFault) (a b c : Tape) → Wrote a b (flat_map f (take i xs)) → WroteUntil fault b c (f x) → WroteUntil fault a c (flat_map f xs)
  cut_at fault a b c h k = until_more fault a c (flat_map f (take i xs) ++ f x) (flat_map f (drop (i + 1) xs)) (flat_map f xs) sent_whole (until_behind fault a b c (flat_map f (take i xs)) (f x) h k)

pub wrote_all : {X : Type 0} (f : X → List Sending) (xs : List X) (i : ℕ) (a b : Tape) → length xs ≤ i → Wrote a b (flat_map f (take i xs)) → Wrote a b (flat_map f xs)
wrote_all {X} f xs i a b le h = subst (λ (l : List X). Wrote a b (flat_map f l)) (take_all i xs le) h

-- the time of one record more
pub times_more : (rs : List Record) (i : ℕ) (r : Record) → i < length rs → slice_get rs i ≡ Some r → map time_of (take (i + 1) rs) ≡ map time_of (take i rs) ++ time_of r ∷ []
times_more rs i r lt is =
    ap (λ (l : List Record). map time_of l) (take_more rs i r lt ∙ ap (λ (q : Record). take i rs ++ q ∷ []) (get_or_from_slice_get rs i r r is))
    ∙ map_push time_of (take i rs) r

pub all_read : (link : Link) (check : Bool) (rs : List Record) → WereRead (packets_of link check rs)
all_read link check [] k p e = absurd (none-some p e)
all_read link check (r ∷ rs) zero p e = subst (λ (o : Option Packet). WasRead o) e (was_read link r.bytes (time_of r) check)
all_read link check (r ∷ rs) (suc k) p e = all_read link check rs k p e

-- the packet of a record that is there
pub packet_there : (link : Link) (check : Bool) (rs : List Record) (i : ℕ) (r : Record) (d : Packet) → slice_get rs i ≡ Some r → get_or (packets_of link check rs) i d ≡ packet_in link check r
packet_there link check [] i r d e = absurd (none-some r e)
packet_there link check (x ∷ rs) zero r d e = let same : x ≡ r = cc in ap (λ (y : Record). packet_in link check y) same
packet_there link check (x ∷ rs) (suc i) r d e = packet_there link check rs i r d e

pub packet_among : (link : Link) (check : Bool) (rs : List Record) (ps : List Packet) (i : ℕ) (r : Record) (d : Packet) → ps ≡ packets_of link check rs → slice_get rs i ≡ Some r → get_or ps i d ≡ packet_in link check r
packet_among link check rs ps i r d same here = ap (λ (l : List Packet). get_or l i d) same ∙ packet_there link check rs i r d here
