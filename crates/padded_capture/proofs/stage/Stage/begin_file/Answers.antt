use Rattle.std.proofs.Common.{List, ℕ, refl, ap, ◌∙◌}
use Rattle.pcap_file.specs.declared.format.Order.TheVariants.{Big}
use Rattle.pcap_file.specs.Format.{number_in, magic_of}
use Rattle.padded_capture.specs.Stages.{State, form_of}
use Rattle.padded_capture.proofs.Coming.{file_whole}
use Rattle.padded_capture.proofs.Fields.{front_is}
use Rattle.padded_capture.proofs.stage.Stage.begin_file.Goals as goal

pub returns-clause-same : goal.returns-clause-same
returns-clause-same c =
    file_whole c.args.self.now _ c.requires.gathers c.requires.form c.requires.count refl
    (c.form_of-self-inside.ensures ∙ ap (λ (w : List ℕ). form_of (magic_of (number_in Big 0 4 w))) (front_is c.self.inside.text c.args.self.now.waiting c.self.inside.given c.self.inside.held (c.self.invariant.2 (ap (λ (x : State). x.is_gathering) c.self.view_is ∙ c.requires.gathers)) (ap (λ (x : State). x.waiting) c.self.view_is))) (ap (λ (x : State). x.waiting) c.self.view_is) refl refl
