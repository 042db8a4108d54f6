-- As it was planned.
use mathlib.Core.Path.{refl}
use Rattle.std.proofs.lemmas.Result.{err_from_is_err_and}
use Rattle.protein_code.proofs.Codes.{code_1, coded_1}
use Rattle.ask_translation.proofs.Ones.{planned_none, planned_unjudged, planned_given, planned_is, planned_not}
use Rattle.ask_translation.proofs.Translator.lay_planned.Goals as goal

pub invariant_of-coding : goal.invariant_of-coding
invariant_of-coding c = record { coded = coded_1 c.args.self.now.code_table }

pub returns-in-NoCds : goal.returns-in-NoCds
returns-in-NoCds c = planned_none c.in-NoCds.is

pub returns-in-Unjudged : goal.returns-in-Unjudged
returns-in-Unjudged c = planned_unjudged c.in-Unjudged.is

pub returns-in-Given : goal.returns-in-Given
returns-in-Given c = planned_given c.in-Given.is c.bytes_of.ensures c.lay_text.ensures

pub returns-in_err-n-in-From : goal.returns-in_err-n-in-From
returns-in_err-n-in-From c =
    let p = err_from_is_err_and c.from_residual.result c.from_residual.ensures.1 in
    rw (p.1, p.2) (planned_not c.args.self.now.known (code_1 c.args.self.now.code_table) c.in-From.is c.bytes_of-in-From.ensures c.bytes_of-in-From-2.ensures c.in_err-n-in-From.ensures _ refl)

pub returns-in_ok-n-in-From : goal.returns-in_ok-n-in-From
returns-in_ok-n-in-From c = planned_is c.args.self.now.known (code_1 c.args.self.now.code_table) c.in-From.is c.bytes_of-in-From.ensures c.bytes_of-in-From-2.ensures c.in_ok-n-in-From.ensures refl
