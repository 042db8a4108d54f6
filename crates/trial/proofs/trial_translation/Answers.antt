-- `trial::trial_translation` meets its contract: the answer of `write`, in numbers.
use mathlib.Core.Path.{sym, ap}
use Rattle.protein_code.proofs.Codes.{code_1, coded_1}
use Rattle.protein_measure.specs.declared.Untranslated.TheVariants.{Short, Stop}
use Rattle.trial.specs.Numbers.{size_number}
use Rattle.trial.proofs.Answers.{wrote, number_of}
use Rattle.trial.proofs.trial_translation.Goals as goal

pub invariant_of-coding : goal.invariant_of-coding
invariant_of-coding c = record { coded = coded_1 c.code_table-code.ensures }

pub returns-in-Ok : goal.returns-in-Ok
returns-in-Ok c = wrote (code_1 c.code_table-code.ensures) c.write-written.ensures (sym (ap size_number c.in-Ok.is)) c.unwrap_or.ensures

pub returns-in-Short : goal.returns-in-Short
returns-in-Short c =
    wrote (code_1 c.code_table-code.ensures) c.write-written.ensures (number_of Short c.in-Err.is c.in-Short.is) c.unwrap_or.ensures

pub returns-in-Stop : goal.returns-in-Stop
returns-in-Stop c =
    wrote (code_1 c.code_table-code.ensures) c.write-written.ensures (number_of Stop c.in-Err.is c.in-Stop.is) c.unwrap_or.ensures
