-- The lines of a list of features, and one feature more.
use Prim.Native.Nat.{ℕ}
use mathlib.Core.Path.{sym, subst}
use mathlib.Core.List.{List, [], ◌∷◌, ◌++◌, append_assoc}
use Rattle.paper.specs.Bytes.{bytes}
use Rattle.paper.specs.Tree.{Sequence, Feature}
use Rattle.paper.specs.Answers.{Lines}
use Rattle.ask_translations.specs.Lines.{Line}

module _ {q : Sequence ℕ} {f : Feature ℕ} where
  -- behind them
  pub lines_more : {l : List (Feature ℕ)} {x y : List ℕ} → Lines q l x → Line q f y → Lines q (l ++ (f ∷ [])) (x ++ y)
  lines_more Lines.end (Line.no_cds u) = Lines.no_cds u Lines.end
  lines_more Lines.end (Line.unjudged u) = Lines.unjudged u Lines.end
  lines_more Lines.end (Line.stop_inside u) = Lines.stop_inside u Lines.end
  lines_more Lines.end (Line.translation u) = Lines.translation u Lines.end
  lines_more (Lines.no_cds t r) h = Lines.no_cds t (lines_more r h)
  lines_more (Lines.unjudged t r) h = Lines.unjudged t (lines_more r h)
  lines_more (Lines.stop_inside t r) h = Lines.stop_inside t (lines_more r h)
  lines_more {l = g ∷ l} {y = z} (Lines.translation {x = x} {y = y} t r) h =
      subst (Lines q (g ∷ (l ++ (f ∷ [])))) (sym (append_assoc y (bytes "\n" ++ x) z)) (Lines.translation t (lines_more r h))

  -- before them
  pub lines_first : {l : List (Feature ℕ)} {x y : List ℕ} → Line q f x → Lines q l y → Lines q (f ∷ l) (x ++ y)
  lines_first (Line.no_cds u) r = Lines.no_cds u r
  lines_first (Line.unjudged u) r = Lines.unjudged u r
  lines_first (Line.stop_inside u) r = Lines.stop_inside u r
  lines_first {l = l} {y = z} (Line.translation {y = y} u) r = subst (Lines q (f ∷ l)) (sym (append_assoc y (bytes "\n") z)) (Lines.translation u r)
