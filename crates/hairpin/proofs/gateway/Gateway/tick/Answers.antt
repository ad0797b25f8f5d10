-- A tick has no bytes, and so none that could be read or left.
use Rattle.std.proofs.Common.{◌≡◌, false, [], Err, sym, refl, ap, ◌∙◌}
use Rattle.blocks.specs.Config.{Config}
use Rattle.blocks.specs.declared.refusal.Refusal.TheVariants.{BadHeader}
use Rattle.mappings.specs.declared.event.Event.TheVariants.{Tick}
use Rattle.mappings.specs.declared.event.Verdict.{Verdict}
use Rattle.mappings.specs.Steps.{step}
use Rattle.packets.specs.Reading.{read_of}
use Rattle.hairpin.specs.Gateways.{config_in, state_in}
use Rattle.hairpin.specs.Passages.{is_to_us, left_by, outcome_of}
use Rattle.hairpin.proofs.gateway.Gateway.tick.Goals as goal

none_read : read_of [] ≡ Err BadHeader
unfolding read_of
none_read = refl

pub returns : goal.returns
returns c =
    let k : Config = config_in c.args.self.now in
    let v : Verdict = (step k Tick (state_in c.args.self.now)).verdict in
    record {
      settings = c.step.ensures.settings;
      state = c.step.ensures.state;
      lines = c.step.ensures.lines;
      outcome = c.outcome.ensures ∙ (ap (outcome_of false) c.step.ensures.verdict ∙ ap (λ y. outcome_of (is_to_us k y) v) (sym none_read));
      left = ap (λ y. left_by k 0 y v []) (sym none_read);
    }
