-- Two words one after the other are one word; a blank and then any blanks are a gap.
use Prim.Native.Nat.{ℕ}
use mathlib.Core.Path.{refl, ◌∙◌}
use mathlib.Core.List.{List, ◌++◌}
use Rattle.paper.specs.Bytes.{is_blank}
use Rattle.paper.specs.Form.{these, ◌·◌, one}
use Rattle.paper.specs.Layout.{blanks, gap}
use Rattle.paper.proofs.Forms.{ev_these, ev_run}
use Rattle.read_steps.specs.Reads.{Step, Passes}
use Rattle.read_steps.specs.Follow.{Not, anything}
use Rattle.read_steps.proofs.Steps.{as_reads, then_pass}

-- two words one after the other are one word
pub these_join : {s x y : List ℕ} {a b c : Step} → Passes (these x) anything s a b → Passes (these y) anything s b c → Passes (these (x ++ y)) anything s a c
these_join {s} {x} {y} p q =
    as_reads {L = λ (u : Unit {0}). these x · these y} {M = λ (u : Unit {0}). these (x ++ y)} (λ u at w. tt)
    (λ u at w d. d.2 ∙ (λ i. d.3 i ++ d.4 i)) (λ u at w d. (tt, (x, y, d, refl, refl), refl))
    (then_pass (λ at w z l g. tt) (ev_these y) p q)

pub gap_reads : {s : List ℕ} {a b c : Step} → Passes (one is_blank) anything s a b → Passes blanks (Not is_blank) s b c → Passes gap (Not is_blank) s a c
gap_reads p q = then_pass (λ at w z l g. tt) (ev_run is_blank) p q
