use Rattle.std.proofs.Common.{◌≡◌, ◌++◌, take, string_bytes}
use Rattle.std.specs.List.{flat_map}
use Rattle.rollout_plan.specs.Forms.{service_text_as}
use Rattle.rollout_plan.proofs.text.version_text_of.Given as goal

abbrev pub invariant-loop-service : goal.invariant-loop-service
invariant-loop-service l = string_bytes l.text ≡ string_bytes l.initial.text ++ flat_map (service_text_as l.form l.rule) (take l.service-index l.service-items)
