-- The value of a qualifier, tested; what a codon_start of that value states.
use Rattle.std.specs.Prelude as rust
use Rattle.std.specs.Prelude.{None, Some}
use Prim.Native.Nat.{ℕ}
use mathlib.Core.Path.{◌≡◌, refl, ap, ◌∙◌, subst}
use mathlib.Core.Bool.{Bool, true, false}
use mathlib.Core.Logic.{inl, inr}
use mathlib.Core.List.{List}
use mathlib.Core.Option.{Option, none, some, some-injective}
use Rattle.paper.specs.Bytes.{bytes, raw}
use Rattle.paper.specs.Tree.{Text, opt}
use Rattle.paper.specs.Values.{Number}
use Rattle.read_steps.specs.Parts.{ShowsBytes}
use Rattle.value_words.specs.Reading.{Tells}
use Rattle.value_words.proofs.Tests.{tells_true, tells_false}
use Rattle.value_words.proofs.Read.{tells_word}
use Rattle.walk_steps.specs.Stands.{MaybeIs}
use Rattle.walk_steps.specs.declared.Range.{Range}
use Rattle.judge_faults.proofs.Bytes.{part_shows}
use Rattle.judge_qualifiers.specs.Qualifiers.{ValueIs, Small, States}
use Rattle.judge_qualifiers.specs.declared.Frame.TheVariants.{Stated, Wrong}

pub tells_as : (r : Bool) {A B : Type 0} → (A → B) → (B → A) → Tells r A → Tells r B
tells_as true to of t = to t
tells_as false to of t = λ b. t (of b)

pub value_present : {s w x : List ℕ} {value : rust.Option Range} {p : Range} (r : Bool) → value ≡ Some p → ShowsBytes s p.from p.to w → Tells r (w ≡ x) → ValueIs s value x r
value_present {s} {w} {x} {p = p} r e h t = record { says = λ a o m. told a o (subst (MaybeIs s o) e m) }
  where
    told : raw x ≡ x → (o : Option (Text ℕ)) → MaybeIs s o (Some p) → Tells r (opt (λ (t : Text ℕ). t.read) o ≡ some x)
    told a none m = absurd m
    told a (some u) m =
        tells_as r {A = u.read ≡ x} {B = some u.read ≡ some x} (ap some) (some-injective u.read x)
        ((tells_word x a r t).says u.read (part_shows m h))

-- ---- codon_start

module _ {s : List ℕ} {value : rust.Option Range} where
  pub states : (n : ℕ) (x : List ℕ) {r : Bool} → raw x ≡ x → Small x → Number n x → r ≡ true → ValueIs s value x r → States s value (Stated n)
  states n x {r} a small number e v = record { says = λ o m. record { word = x; is = tells_true r e (v.says a o m); small = small; number = number } }

  pub states_wrong : {a b c : Bool} → a ≡ false → ValueIs s value (bytes "1") a → b ≡ false → ValueIs s value (bytes "2") b → c ≡ false → ValueIs s value (bytes "3") c
      → States s value Wrong
  states_wrong {a} {b} {c} ea va eb vb ec vc = record { says = λ o m n h. apart o m h.word h.is h.small }
    where
      apart : (o : Option (Text ℕ)) → MaybeIs s o value → (w : List ℕ) → opt (λ (t : Text ℕ). t.read) o ≡ some w → ¬ Small w
      apart o m w e (inl h) = tells_false a ea (va.says refl o m) (e ∙ ap some h)
      apart o m w e (inr (inl h)) = tells_false b eb (vb.says refl o m) (e ∙ ap some h)
      apart o m w e (inr (inr h)) = tells_false c ec (vc.says refl o m) (e ∙ ap some h)
