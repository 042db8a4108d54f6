-- Measured, and then written.
use mathlib.Core.Path.{sym, ◌∙◌}
use Rattle.std.proofs.lemmas.Result.{err_from_is_err_and}
use Rattle.ask_translations.proofs.AllLines.{all_short, all_written, all_fit}
use Rattle.ask_translations.proofs.translate_all.Goals as goal

pub returns-in_err-or : goal.returns-in_err-or
returns-in_err-or c =
    let p = err_from_is_err_and c.from_residual.result c.from_residual.ensures.1 in
    rw (p.1, p.2) (all_short c.lay_all.ensures (sym c.or.ensures ∙ c.in_err-or.was))

pub returns-in_err-written : goal.returns-in_err-written
returns-in_err-written c = all_fit c.lay_all.ensures (sym c.or.ensures ∙ c.in_ok-or.was) c.lay_all-2.ensures (sym c.or-2.ensures ∙ c.in_err-written.was)

pub returns : goal.returns
returns c = all_written c.lay_all.ensures (sym c.or.ensures ∙ c.in_ok-or.was) c.lay_all-2.ensures (sym c.or-2.ensures ∙ c.in_ok-written.was)
