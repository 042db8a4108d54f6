-- No line, none that fits, a dash, or the translation and byte 10 behind it.
use native.Mathlib.Omega.{arith}
use mathlib.Core.Logic.{inl, inr}
use mathlib.Core.Path.{ap, ◌∙◌}
use Rattle.std.specs.Prelude.{Err}
use Rattle.ask_translations.proofs.OneLine.{line_none, line_short, line_dash, line_text}
use Rattle.ask_translations.proofs.lay_line.Goals as goal

pub returns-in-Ok : goal.returns-in-Ok
returns-in-Ok c = line_text c.args.writing c.lay_planned.ensures c.lay_planned.auto.out c.pass_of-pass.ensures c.in-Ok.is c.lay_bytes.ensures

pub returns-in-NoCds : goal.returns-in-NoCds
returns-in-NoCds c = line_none c.args.writing c.lay_planned.ensures c.lay_planned.auto.out (c.in-Err.is ∙ ap (λ e. Err e) c.in-NoCds.is)

pub returns-in-Short : goal.returns-in-Short
returns-in-Short c = line_short c.args.writing c.lay_planned.ensures c.lay_planned.auto.out (c.in-Err.is ∙ ap (λ e. Err e) c.in-Short.is)

pub returns-in-Unjudged : goal.returns-in-Unjudged
returns-in-Unjudged c =
    elim c.in-Unjudged.is [
      | inl e ↦
          line_dash c.args.writing c.lay_planned.ensures c.lay_planned.auto.out c.pass_of-pass.ensures (omega arith) (c.in-Err.is ∙ ap (λ e. Err e) e) c.lay_bytes-in-Unjudged.ensures
      | inr e ↦
          line_dash c.args.writing c.lay_planned.ensures c.lay_planned.auto.out c.pass_of-pass.ensures (omega arith) (c.in-Err.is ∙ ap (λ e. Err e) e) c.lay_bytes-in-Unjudged.ensures
    ]
