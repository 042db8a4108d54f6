-- One sequence, from its texts and its table.
use Rattle.std.specs.Prelude.{None, Some, is_some}
use Rattle.std.specs.Prelude as rust
use Prim.Native.Nat.{ℕ}
use native.Mathlib.Omega.{arith}
use mathlib.Core.Path.{◌≡◌, refl, sym, ap, ◌∙◌, subst}
use mathlib.Core.Bool.{Bool, true, false}
use mathlib.Core.Logic.{inl, inr}
use mathlib.Core.List.{List}
use mathlib.Core.Option.{Option, none, some}
use lib.ListN.{length}
use Rattle.paper.specs.Lists.{Count, end}
use Rattle.paper.specs.Tree.{Sequence, Table, features_in, features_of}
use Rattle.paper.specs.Values.{Number}
use Rattle.paper.specs.Rules.{Skipped, InTexts, InTable, InSequence, rule_15, rule_29, texts, table, Empty}
use Rattle.judge_faults.proofs.Parts.{◌or◌}
use Rattle.walk_steps.specs.Stands.{is_there}
use Rattle.walk_items.specs.Items.{MeetsSequence, TableIs}
use Rattle.walk_items.specs.declared.FoundSequence.{FoundSequence}
use Rattle.walk_items.specs.declared.FoundTable.{FoundTable}
use Rattle.value_words.specs.Reading.{Tells}
use Rattle.value_words.proofs.Tests.{told}
use Rattle.judge_faults.specs.Sets.{Fault, Earlier, Firsts, Bad, unless_of}
use Rattle.judge_faults.specs.declared.Known.{Known}
use Rattle.judge_faults.proofs.Faults.{firsts_or, firsts_as, firsts_unless}
use Rattle.judge_texts.specs.Texts.{KnowsOf, JudgesNumber, TellsSkipped, TellsEmpty, JudgesTexts}
use Rattle.judge_features.specs.Featured.{JudgesTable, CountedIn, JudgedIn, UnjudgedIn}
use Rattle.judge_features.specs.declared.Tabled.{Tabled}
use Rattle.judge_sequences.specs.Sequences.{JudgesSequence}

-- what a walk says of a table is whether it is there
table_told : (s : List ℕ) (o : Option (Table ℕ)) (t : rust.Option FoundTable) → TableIs s o t → is_some t ≡ is_there o
table_told s none None i = refl
table_told s none (Some t) i = absurd i
table_told s (some x) None i = absurd i
table_told s (some x) (Some t) i = refl

module _ {s : List ℕ} {at k : ℕ} {x : FoundSequence} {a : Fault} {skip : Bool} (finds : MeetsSequence s at x) (jn : JudgesNumber s x.number k a)
    (ts : TellsSkipped s x.residues skip) where
  pub skipped_one : {ok : Bool} {b : Fault} (r : Fault) → skip ≡ true → TellsEmpty x.declared x.moltype x.division x.ids (is_some x.table) ok
      → b ≡ unless_of ok 29 x.residues.from → Earlier a b r
      → JudgesSequence s at k (record { fault = r; skipped = true; counts = record { features = 0; judged = 0; unjudged = 0 }; next = x.next })
  skipped_one {ok} {b} r h te eb el =
      record {
        says =
            λ q e short d fol.
            let y = finds q e d fol in
            let sk = told (Skipped q) h (ts.says q y.residues) in
            let A = Bad 15 q.number.place (Number k q.number.read) in
            let B = Bad 29 q.residues.place (Empty q) in
            let fb : Firsts B b =
            firsts_unless ok 29 q.residues.place (te.says s q y.declared y.moltype y.division y.ids (table_told s q.table x.table y.table))
            (eb ∙ ap (unless_of ok 29) y.residues.first) in
            record {
              fault = firsts_as (◌or◌ A B) (InSequence k q) (to q sk) (of q sk) (firsts_or A B (jn.says q.number y.number) fb el);
              skipped = sk;
              counted = λ clean. empty_counts q ok (te.says s q y.declared y.moltype y.division y.ids (table_told s q.table x.table y.table)) (λ n'. clean 29 q.residues.place (rule_29 sk n'));
              next = y.next;
            };
        below = record { features = omega arith; judged = omega arith; unjudged = omega arith };
      }
    where
      to : (q : Sequence ℕ) → Skipped q → (n p : ℕ) → ◌or◌ (Bad 15 q.number.place (Number k q.number.read)) (Bad 29 q.residues.place (Empty q)) n p → InSequence k q n p
      to q sk n p (inl z) = rw (z.0, z.1) (rule_15 z.2)
      to q sk n p (inr z) = rw (z.0, z.1) (rule_29 sk z.2)

      of : (q : Sequence ℕ) → Skipped q → (n p : ℕ) → InSequence k q n p → ◌or◌ (Bad 15 q.number.place (Number k q.number.read)) (Bad 29 q.residues.place (Empty q)) n p
      of q sk n p (rule_15 z) = inl (refl, refl, z)
      of q sk n p (texts u z) = absurd (u sk)
      of q sk n p (table u z) = absurd (u sk)
      of q sk n p (rule_29 u z) = inr (refl, refl, z)

      -- a skipped sequence that keeps rule 29 has no features
      empty_counts : (q : Sequence ℕ) (o : Bool) → Tells o (Empty q) → ¬ (¬ Empty q) → CountedIn q (features_of q) (record { features = 0; judged = 0; unjudged = 0 })
      empty_counts q true t n =
          let c = subst (λ (y : Option (Table ℕ)). (0 ≡ length (features_in y)) × Count (JudgedIn q) (features_in y) 0 × Count (UnjudgedIn q) (features_in y) 0) (sym t.4) (refl, end, end) in
          record { features = c.0; judged = c.1; unjudged = c.2 }
      empty_counts q false t n = absurd (n t)

  pub judged_one : {known : Known} {b : Fault} {y : Tabled} (d r : Fault) → skip ≡ false → KnowsOf s x.moltype x.residues known
      → JudgesTexts s x.declared x.moltype x.division known b → JudgesTable s x.table known y → Earlier a b d → Earlier d y.fault r
      → JudgesSequence s at k (record { fault = r; skipped = false; counts = y.counts; next = x.next })
  judged_one {known} {b} {y} d r h kn jt jb e1 e2 =
      record {
        says =
            λ q e short st fol.
            let z = finds q e st fol in
            let u = told (Skipped q) h (ts.says q z.residues) in
            let kw = kn.says q short z.moltype z.residues in
            let A = Bad 15 q.number.place (Number k q.number.read) in
            let tb = jb.says q kw z.table in
            record {
              fault =
                  firsts_as (◌or◌ (◌or◌ A (InTexts q)) (InTable q)) (InSequence k q) (to q u) (of q u)
                  (firsts_or (◌or◌ A (InTexts q)) (InTable q) (firsts_or A (InTexts q) (jn.says q.number z.number) (jt.says q z.declared z.moltype z.division kw) e1) tb.fault e2);
              skipped = u;
              counted = λ clean. tb.counts;
              next = z.next;
            };
        below = jb.below;
      }
    where
      to : (q : Sequence ℕ) → ¬ Skipped q → (n p : ℕ) → ◌or◌ (◌or◌ (Bad 15 q.number.place (Number k q.number.read)) (InTexts q)) (InTable q) n p → InSequence k q n p
      to q u n p (inl (inl z)) = rw (z.0, z.1) (rule_15 z.2)
      to q u n p (inl (inr z)) = texts u z
      to q u n p (inr z) = table u z

      of : (q : Sequence ℕ) → ¬ Skipped q → (n p : ℕ) → InSequence k q n p → ◌or◌ (◌or◌ (Bad 15 q.number.place (Number k q.number.read)) (InTexts q)) (InTable q) n p
      of q u n p (rule_15 z) = inl (inl (refl, refl, z))
      of q u n p (texts v z) = inl (inr z)
      of q u n p (table v z) = inr z
      of q u n p (rule_29 v z) = absurd (u v)
