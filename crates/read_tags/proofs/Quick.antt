-- A tag that stands there with no blank in it is read as any tag: one step for the words of it, and no step for the blanks.
use Prim.Native.Nat.{ℕ, ◌+◌, max}
use native.Mathlib.Omega.{arith}
use mathlib.Core.Path.{◌≡◌, refl, sym, ap, ◌∙◌}
use mathlib.Core.Bool.{false}
use mathlib.Core.List.{List}
use lib.ListN.{length, get_or, drop}
use Rattle.paper.specs.Bytes.{bytes, is_blank}
use Rattle.paper.specs.Form.{these, lit}
use Rattle.paper.specs.Layout.{blanks, text, close, leaf}
use Rattle.read_bytes.specs.Words.{StandsAt}
use Rattle.read_steps.specs.Reads.{Step, going, stuck, Reads, Passes}
use Rattle.read_steps.specs.Follow.{Not, anything}
use Rattle.read_steps.specs.Texts.{allowed_in, is_text}
use Rattle.read_steps.proofs.Leaves.{these_differ, run_stops}
use Rattle.read_steps.proofs.Steps.{step_is}
use Rattle.read_steps.proofs.Joins.{these_join}
use Rattle.read_steps.proofs.Words.{stands_took}
use Rattle.read_tags.specs.Standing.{Usual}
use Rattle.read_tags.proofs.Tags.{close_reads, body_long, content_reads, leaf_reads}

here : {s : List ℕ} {at : ℕ} → StandsAt (bytes ">") s at → get_or (drop at s) 0 0 ≡ 62
here h = ap (λ (t : List ℕ). get_or t 0 0) h.here

module _ {s : List ℕ} {at far : ℕ} where
  word_passes : {x : List ℕ} → StandsAt x s at → Passes (these x) anything s (going at far) (going (at + length x) (max far (at + length x)))
  word_passes {x} h = record { is = (length x, length x, refl, refl, stands_took h) }

  no_blanks : StandsAt (bytes ">") s at → Passes blanks (Not is_blank) s (going at far) (going at (max far at))
  no_blanks h = record { is = (0, 0, omega arith, omega arith, run_stops is_blank (drop at s) at 0 (omega arith) tt (ap is_blank (here h))) }

  not_short : StandsAt (bytes ">") s at → Passes (lit "/>") anything s (going at far) (stuck (max far at))
  not_short h =
      record { is = (0, omega arith, these_differ (bytes "/>") (drop at s) at 0 (omega arith) refl (λ e. absurd (omega (arith, sym (here h) ∙ e)))) }

module _ {s name : List ℕ} {at far : ℕ} where
  pub usual_close : {next far' : ℕ} → Usual s at (bytes "</") name → next ≡ at + length name + 3 → far' ≡ max far next
      → Passes (close name) anything s (going at far) (going next far')
  usual_close {next} {far'} h e f =
      step_is (close_reads (these_join (word_passes h.marked) (word_passes h.named)) (no_blanks h.closed) (word_passes h.closed))
      (λ i. going (p i) (q i))
    where
      p : at + 2 + length name + 1 ≡ next
      p = omega (arith, e)

      q : max (max (max (max far (at + 2)) (at + 2 + length name)) (at + 2 + length name)) (at + 2 + length name + 1) ≡ far'
      q = omega (arith, e, f)

  pub usual_leaf : {next far' : ℕ} {d r : Step} → Usual s at (bytes "<") name → next ≡ at + length name + 2 → far' ≡ max far next
      → Reads (text (allowed_in false)) (Not (is_text false)) s (going next far') d → Passes (close name) anything s d r
      → Reads (leaf name) anything s (going at far) r
  usual_leaf {next} {far'} h e f words shut =
      leaf_reads (these_join (word_passes h.marked) (word_passes h.named))
      (content_reads name false at (no_blanks h.closed)
      (body_long name false at (not_short h.closed) (step_is (word_passes h.closed) (λ i. going (p i) (q i))) words shut))
    where
      p : at + 1 + length name + 1 ≡ next
      p = omega (arith, e)

      q : max (max (max (max (max far (at + 1)) (at + 1 + length name)) (at + 1 + length name)) (at + 1 + length name)) (at + 1 + length name + 1) ≡ far'
      q = omega (arith, e, f)
