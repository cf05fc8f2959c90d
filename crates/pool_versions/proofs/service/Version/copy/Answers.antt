use Rattle.std.proofs.Common.{◌≡◌, ◌<◌, ◌≤◌, length, map, List, get_or, refl, ap, ◌∙◌, arith}
use Rattle.std.proofs.lemmas.List.{map_push}
use Rattle.pool_versions.specs.declared.service.Service.{Service}
use Rattle.pool_versions.specs.Same.{parts_of}
use Rattle.pool_versions.proofs.Alike.{parts_all, parts_next}
use Rattle.pool_versions.proofs.service.Version.copy.Goals as goal

pub loop-service-preserved : goal.loop-service-preserved
loop-service-preserved c =
    let services : List Service = c.args.self.now.services.items in
    let same = c.deref-service-items.ensures.value in
    let below : c.loop-service.service-index < length services = omega (arith, c.loop-service-test.true, ap (λ (l : List Service). length l) same) in
    let is : c.service-item.result ≡ get_or services c.loop-service.service-index c.service-item.result = c.service-item.is ∙ ap (λ (l : List Service). get_or l c.loop-service.service-index c.service-item.result) same in
    ap (map parts_of) c.in_ok-push.ensures.items
    ∙ map_push parts_of c.loop-service.services.items c.in_ok-copy_of.field-0
    ∙ parts_next services c.loop-service.service-index c.service-item.result (parts_of c.in_ok-copy_of.field-0) (map parts_of c.loop-service.services.items) below is c.loop-service.invariant c.in_ok-copy_of.ensures

pub returns : goal.returns
returns c =
    let all : length c.args.self.now.services.items ≤ c.loop-service.service-index = omega (arith, c.loop-service-test.false, ap (λ l. length l) c.deref-service-items.ensures.value) in
    record { number = refl; services = c.loop-service.invariant ∙ parts_all c.args.self.now.services.items c.loop-service.service-index all }
