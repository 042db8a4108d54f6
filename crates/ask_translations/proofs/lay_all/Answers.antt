-- The line of the first feature, and the others behind it.
use Prim.Native.Nat.{◌≤◌}
use mathlib.Core.Path.{subst, sym}
use Rattle.std.specs.Prelude.{IfOk}
use Rattle.ask_translations.proofs.Walks.{planned_passes}
use Rattle.ask_translations.proofs.AllLines.{all_laid}
use Rattle.ask_translations.proofs.lay_all.Goals as goal

pub lay_rest-requires : goal.lay_rest-requires
lay_rest-requires c = record {
  vocabulary_table = c.requires;
  was_in_bounds = subst (λ n. IfOk c.lay_line-laid.result (λ end. end ≤ n)) (sym c.lay_line-laid.ensures.kept) c.lay_line-laid.ensures.within;
}

pub returns : goal.returns
returns c =
    all_laid c.plan_of-plan.ensures (planned_passes c.plan_of-plan.ensures c.feature_end-next.ensures) c.lay_line-laid.ensures c.lay_rest.ensures
