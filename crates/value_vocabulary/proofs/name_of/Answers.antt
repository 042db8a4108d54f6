-- `value_vocabulary::name_of` meets its contract: the place of the text as written is that of the text as read.
use Prim.Native.Nat.{ℕ}
use mathlib.Core.List.{List, map}
use mathlib.Core.Path.{sym, subst}
use Rattle.paper.specs.Bytes.{raw}
use Rattle.value_dictionary.specs.Texts.{PlaceOf}
use Rattle.value_vocabulary.specs.Tables.{name_texts}
use Rattle.value_vocabulary.proofs.Keyed.{place_read}
use Rattle.value_vocabulary.proofs.name_of.Goals as goal

pub returns : goal.returns
returns c =
    let r = c.unwrap_or in
    let p = subst (PlaceOf (map raw name_texts) c.args.w.now) (sym r.ensures) (c.find.ensures.0.looks (map raw name_texts) c.requires.names) in
    record {
      says = λ v e. place_read name_texts v r.result (subst (λ (w : List ℕ). PlaceOf (map raw name_texts) w r.result) e p);
    }
