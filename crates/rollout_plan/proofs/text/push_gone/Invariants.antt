use Rattle.std.proofs.Common.{◌≡◌, ◌++◌, take, string_bytes}
use Rattle.std.specs.List.{flat_map}
use Rattle.rollout_plan.specs.Text.{services_gone}
use Rattle.rollout_plan.specs.Forms.{gone_text_as}
use Rattle.rollout_plan.proofs.text.push_gone.Given as goal

abbrev pub invariant-loop-service : goal.invariant-loop-service
invariant-loop-service l = string_bytes l.text ≡ string_bytes l.initial.text ++ flat_map (gone_text_as l.form l.rule) (services_gone (take l.service-index l.services) l.after)
