-- `value_vocabulary::vocabulary_table` meets its contract: the rule of each part, by the tests of all its entries.
use native.Mathlib.Omega.{arith}
use mathlib.Core.Path.{refl}
use mathlib.Core.Bool.{true, false}
use Rattle.paper.specs.Vocabulary.{nucleotide_rows, amino_rows}
use Rattle.value_dictionary.proofs.Right.{dictionary_right}
use Rattle.value_vocabulary.proofs.Right.{keys_right}
use Rattle.value_vocabulary.proofs.vocabulary_table.Goals as goal

pub returns : goal.returns
returns c =
    record {
      names = dictionary_right 13895407 255 _ _ (omega arith) refl refl;
      nucleotides = keys_right false nucleotide_rows 655 2572 _ _ 4094411 (dictionary_right 4094411 127 _ _ (omega arith) refl refl) refl;
      acids = keys_right true amino_rows 499 2572 _ _ 4266913 (dictionary_right 4266913 127 _ _ (omega arith) refl refl) refl;
    }
