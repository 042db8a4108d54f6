-- The verdict, from the layout and the parts of the judge.
use Prim.Native.Nat.{ℕ}
use mathlib.Core.Path.{◌≡◌, refl, ◌∙◌, subst}
use mathlib.Core.Bool.{Bool}
use mathlib.Core.Logic.{inl, inr}
use mathlib.Core.List.{List}
use lib.ListN.{length}
use Rattle.paper.specs.Tree.{Listing}
use Rattle.paper.specs.Values.{Number}
use Rattle.paper.specs.Rules.{InHeader, InSequence, Broken, header, rule_14, sequence}
use Rattle.paper.specs.Answers.{CheckSays}
use Rattle.paper.specs.Answers as paper
use Rattle.std.specs.Prelude.{None, Some, Ok, Err}
use Rattle.paper.specs.declared.Refused.{Refused}
use Rattle.judge_faults.proofs.Parts.{◌or◌}
use Rattle.read_steps.specs.Parts.{ShowsBytes}
use Rattle.value_words.specs.Reading.{OfRead}
use Rattle.read_layout.specs.Says.{Lays, Refuses, too_long, strays}
use Rattle.judge_faults.specs.Sets.{Fault, Least, Earlier, Faults, Firsts, Bad, InSome, unless_of}
use Rattle.judge_faults.proofs.Faults.{firsts_or, firsts_as}
use Rattle.judge_faults.proofs.Values.{text_fault}
use Rattle.judge_header.specs.Headers.{JudgesHeader}
use Rattle.judge_header.specs.declared.Headed.{Headed}
use Rattle.judge_sequences.specs.Sequences.{JudgesSequences}
use Rattle.judge_sequences.specs.declared.Total.{Total}
use Rattle.ask_check.specs.Checks.{JudgesListing}

-- ---- the broken rules of a listing are those of its header, its total and its sequences

abbrev InTotal : Listing ℕ → Faults
InTotal l = Bad 14 l.total.place (Number (length l.sequences) l.total.read)

abbrev InParts : Listing ℕ → Faults
InParts l = ◌or◌ (InHeader l) (◌or◌ (InTotal l) (InSome InSequence l.sequences))

module _ (l : Listing ℕ) where
  to_broken : (n p : ℕ) → InParts l n p → Broken l n p
  to_broken n p (inl h) = header h
  to_broken n p (inr (inl h)) = rw (h.0, h.1) (rule_14 h.2)
  to_broken n p (inr (inr h)) = sequence h.0 h.1 h.2 h.3

  of_broken : (n p : ℕ) → Broken l n p → InParts l n p
  of_broken n p (header h) = inl h
  of_broken n p (rule_14 h) = inr (inl (refl, refl, h))
  of_broken n p (sequence k q i h) = inr (inr (k, q, i, h))

pub listing_judged : {w p : List ℕ} {h : Headed} {t : Total} {ok : Bool} {c : Fault} (d r : Fault) → JudgesHeader w h → JudgesSequences w h.first t
    → ShowsBytes w h.total.from h.total.to p → OfRead p (Number t.figures.total) ok → c ≡ unless_of ok 14 h.total.from → Earlier c t.fault d → Earlier h.fault d r
    → JudgesListing w (record { fault = r; figures = t.figures })
listing_judged {t = t} {ok} {c} d r jh js sh on ec e1 e2 =
    record {
      says =
          λ l short laid.
          let y = jh.says l laid in
          let z = js.says short l.sequences y.end y.sequences y.closes in
          let fc : Firsts (InTotal l) c =
          subst (λ (n : ℕ). Firsts (λ (m p : ℕ). (m ≡ 14) × (p ≡ l.total.place) × (¬ Number n l.total.read)) c) z.total (text_fault 14 (Number t.figures.total) ok y.total sh on ec) in
          record {
            fault =
                firsts_as (InParts l) (Broken l) (to_broken l) (of_broken l)
                (firsts_or (InHeader l) (◌or◌ (InTotal l) (InSome InSequence l.sequences)) y.fault (firsts_or (InTotal l) (InSome InSequence l.sequences) fc z.fault e1) e2);
            counted =
                λ clean.
                let k = z.counted (λ n p x. clean n p (to_broken l n p (inr (inr x)))) in
                record { totals = z.total; skips = z.skipped; featured = k.features_are; judges = k.judged_are; unjudges = k.unjudged_are };
          };
    }

-- a refusal by rule 1 or 2
pub refused_so : {w : List ℕ} {n p : ℕ} → Refuses w n p → CheckSays w (Err (record { rule = n; place = p }))
refused_so (too_long h) = paper.too_long h
refused_so (strays h s) = paper.strays h s

module _ {w : List ℕ} {t : Total} (lays : Lays w) (j : JudgesListing w t) where
  -- a refusal by a rule on values
  pub broken_so : {f : Fault} {r : Refused} → t.fault ≡ f → f ≡ Some r → CheckSays w (Err r)
  broken_so e h =
      paper.breaks lays.listing lays.short lays.laid
      (subst (Least (Broken lays.listing)) (e ∙ h) (j.says lays.listing lays.short lays.laid).fault.is)

  pub accepted_so : {f : Fault} → t.fault ≡ f → f ≡ None → CheckSays w (Ok t.figures)
  accepted_so e h =
      let y = j.says lays.listing lays.short lays.laid in
      let clean = subst (Least (Broken lays.listing)) (e ∙ h) y.fault.is in
      (lays.listing, paper.accepted lays.short lays.laid clean, y.counted clean)
