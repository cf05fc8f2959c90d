-- A packet that can be balanced is short enough to be wrapped.
use Rattle.std.proofs.Common.{◌≡◌, ◌≤◌, ℕ, zero, suc, [], ◌∷◌, Bor, option_map, Bool, true, false, List, Result, Ok, Err, Option, Some, None, refl, sym, subst, arith, take, length}
use Rattle.std.proofs.lemmas.Bool.{ltb-false}
use Rattle.std.specs.Prelude.{nat_lt, if◌then◌else◌, IfSome}
use Rattle.ip_headers.specs.Ipv4.{Datagram, frame_answer, ipv4_answer}
use Rattle.ip_headers.specs.declared.Link.{Link}
use Rattle.ip_headers.specs.declared.IpFault.{IpFault}
use Rattle.five_tuple.specs.declared.Flow.{Flow}
use Rattle.five_tuple.specs.Flow.{flow_answer}
use Rattle.cluster_node.specs.declared.packets.Packet.{Packet}
use Rattle.cluster_node.specs.declared.packets.Packet.TheVariants.{Good, Bad}
use Rattle.cluster_node.specs.declared.outcomes.Cause.TheVariants.{TooLarge}
use Rattle.simulation.specs.Sent.{cut_to}
use Rattle.cluster_core.specs.Reading.{sized, of_flow, of_datagram, of_frame, packet_read}

abbrev pub Short : Packet → Type 0
Short (Good x len at) = len ≤ 65511
Short (Bad c) = Unit {0}

sized_short : (x : Flow) (total at : ℕ) → Short (sized x total at)
sized_short x total at = go (nat_lt 65511 total) refl
  where
    go : (b : Bool) → nat_lt 65511 total ≡ b → Short (if b then Bad TooLarge else Good x total at)
    go true e = tt
    go false e = ltb-false 65511 total e

flow_short : (total at : ℕ) (r : Result Flow IpFault) → Short (of_flow total at r)
flow_short total at (Err fault) = tt
flow_short total at (Ok x) = sized_short x total at

datagram_short : (at : ℕ) (r : Result Datagram IpFault) → Short (of_datagram at r)
datagram_short at (Err fault) = tt
datagram_short at (Ok d) = flow_short d.total at (flow_answer d)

frame_short : (check : Bool) (at : ℕ) (r : Result (List ℕ) IpFault) → Short (of_frame check at r)
frame_short check at (Err fault) = tt
frame_short check at (Ok bytes) = datagram_short at (ipv4_answer check bytes)

pub read_short : (link : Link) (frame : List ℕ) (at : ℕ) (check : Bool) → Short (packet_read link frame at check)
unfolding packet_read
read_short link frame at check = frame_short check at (frame_answer link frame)

take_most : (k : ℕ) (l : List ℕ) → length (take k l) ≤ k
take_most zero l = omega arith
take_most (suc k) [] = omega arith
take_most (suc k) (x ∷ l) = omega (arith, take_most k l)

cut_short : (p : Packet) (r : Result (List ℕ) IpFault) → Short p → IfSome (cut_to p r) (λ d. length d ≤ 65511)
cut_short p (Err fault) h = tt
cut_short (Bad c) (Ok bytes) h = tt
cut_short (Good x len at) (Ok bytes) h = omega (arith, take_most len bytes, h)

given_short : (inner : Option (Bor (List ℕ))) (d : Option (List ℕ)) → option_map (λ b. b.now) inner ≡ d → IfSome d (λ l. length l ≤ 65511) → IfSome inner (λ b. length b.now ≤ 65511)
given_short None d e h = tt
given_short (Some b) d e h = subst (λ (o : Option (List ℕ)). IfSome o (λ l. length l ≤ 65511)) (sym e) h

pub inner_short : (link : Link) (check : Bool) (bytes : List ℕ) (at : ℕ) (p : Packet) (inner : Option (Bor (List ℕ))) → p ≡ packet_read link bytes at check → option_map (λ b. b.now) inner ≡ cut_to p (frame_answer link bytes) → IfSome inner (λ b. length b.now ≤ 65511)
inner_short link check bytes at p inner e h =
    given_short inner (cut_to p (frame_answer link bytes)) h (cut_short p (frame_answer link bytes) (subst Short (sym e) (read_short link bytes at check)))
