use Rattle.std.proofs.Common.{◌≡◌, ap, sym, ◌∙◌, refl, arith}
use Rattle.byteorder.specs.Endian.{big_from}
use Rattle.five_tuple.specs.declared.Flow.{Flow}
use Rattle.five_tuple.specs.Flow.{flow_bytes, Fits}
use Rattle.five_tuple.proofs.equal_bytes_mean_equal_flows.Goals as goal

src-read : (x : Flow) → Fits x → big_from 0 4 (flow_bytes x) ≡ x.src
unfolding flow_bytes
src-read x f = let h = f.src in omega arith

dst-read : (x : Flow) → Fits x → big_from 4 4 (flow_bytes x) ≡ x.dst
unfolding flow_bytes
dst-read x f = let h = f.dst in omega arith

sport-read : (x : Flow) → Fits x → big_from 8 2 (flow_bytes x) ≡ x.sport
unfolding flow_bytes
sport-read x f = let h = f.sport in omega arith

dport-read : (x : Flow) → Fits x → big_from 10 2 (flow_bytes x) ≡ x.dport
unfolding flow_bytes
dport-read x f = let h = f.dport in omega arith

proto-read : (x : Flow) → big_from 12 1 (flow_bytes x) ≡ x.proto
unfolding flow_bytes
proto-read x = omega arith

same-parts : (x y : Flow) → x.src ≡ y.src → x.dst ≡ y.dst → x.sport ≡ y.sport → x.dport ≡ y.dport → x.proto ≡ y.proto → x ≡ y
same-parts x y a b s d p =
    let f : x ≡ record { src = x.src; dst = x.dst; sport = x.sport; dport = x.dport; proto = x.proto } = refl in
    let g : y ≡ record { src = y.src; dst = y.dst; sport = y.sport; dport = y.dport; proto = y.proto } = refl in
    cc

pub returns : goal.returns
returns c = λ x y f g e.
    same-parts x y
    (sym (src-read x f) ∙ ap (big_from 0 4) e ∙ src-read y g)
    (sym (dst-read x f) ∙ ap (big_from 4 4) e ∙ dst-read y g)
    (sym (sport-read x f) ∙ ap (big_from 8 2) e ∙ sport-read y g)
    (sym (dport-read x f) ∙ ap (big_from 10 2) e ∙ dport-read y g)
    (sym (proto-read x) ∙ ap (big_from 12 1) e ∙ proto-read y)
