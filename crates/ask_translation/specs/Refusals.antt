-- Why a translation isn't written, and what is answered then.
use Rattle.std.specs.Prelude.{ℕ, Result, Ok, Err}
use Rattle.paper.specs.declared.Refused.{Refused}
use Rattle.protein_measure.specs.declared.Untranslated.{Untranslated}
use Rattle.protein_measure.specs.declared.Untranslated.TheVariants as untranslated
use Rattle.ask_answers.specs.Stretches.{LentAnswer}
use Rattle.ask_translation.specs.declared.Unwritten.{Unwritten}
use Rattle.ask_translation.specs.declared.Unwritten.TheVariants.{Short, NoCds, Unjudged, Stop}

-- what isn't translated isn't written
abbrev pub unwritten_of : Untranslated → Unwritten
unwritten_of untranslated.Short = Short
unwritten_of untranslated.Stop = Stop

-- "34 lent output shorter than the answer; 35 not a CDS of DNA or RNA; 36 unjudged; 37 stop inside"
abbrev pub number_of : Unwritten → ℕ
number_of Short = 34
number_of NoCds = 35
number_of Unjudged = 36
number_of Stop = 37

abbrev pub refused_of : Unwritten → Refused
refused_of e = record { rule = number_of e; place = 0 }

-- the length of what is written, or the refusal
abbrev pub answer_of : Result ℕ Unwritten → LentAnswer
answer_of (Ok n) = Ok n
answer_of (Err e) = Err (refused_of e)
