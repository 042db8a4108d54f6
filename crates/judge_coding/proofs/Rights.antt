-- Rule 28: one qualifier, and all of them.
use Rattle.std.specs.Prelude as rust
use Prim.Native.Nat.{ℕ, suc, ◌≤◌}
use native.Mathlib.Omega.{arith}
use mathlib.Core.Path.{◌≡◌, refl, sym, ap, ◌∙◌, subst}
use mathlib.Core.Bool.{Bool, true, false}
use mathlib.Core.Logic.{inl, inr}
use mathlib.Core.List.{List, [], ◌∷◌, ◌++◌}
use mathlib.Core.Option.{Option, none, some, none-ne-some, some-injective}
use lib.ListN.{length}
use Rattle.paper.specs.Bytes.{bytes, raw}
use Rattle.paper.specs.Tree.{Text, Qualifier, opt}
use Rattle.paper.specs.Layout.{child, qualifier}
use Rattle.paper.specs.Locations.{Location}
use Rattle.paper.specs.Translation.{drop_stop, has_stop_inside}
use Rattle.paper.specs.Rules.{Named, value_read, value_place}
use Rattle.std.specs.Prelude.{None, Some}
use Rattle.paper.proofs.Texts.{raw_once}
use Rattle.read_steps.specs.Follow.{closing}
use Rattle.read_steps.specs.Parts.{ShowsBytes}
use Rattle.value_words.specs.Reading.{Tells}
use Rattle.value_words.proofs.Tests.{tells_true, tells_false}
use Rattle.value_words.proofs.Read.{tells_word}
use Rattle.walk_steps.specs.Stands.{IsPart, MaybeIs, TellsChild}
use Rattle.walk_steps.specs.declared.Range.{Range}
use Rattle.walk_items.specs.Items.{MeetsQualifier}
use Rattle.walk_items.specs.declared.FoundQualifier.{FoundQualifier}
use Rattle.protein_code.specs.Tables.{code_of}
use Rattle.protein_compare.specs.Comparing.{RightValue, RightIf, Compares}
use Rattle.judge_faults.specs.Sets.{Fault, fault_at, Earlier, Firsts, InSome}
use Rattle.judge_faults.proofs.Bytes.{part_shows}
use Rattle.judge_faults.proofs.Faults.{earlier_clean, firsts_none, some_none, some_more, some_later}
use Rattle.judge_faults.proofs.Seen.{seen_none}
use Rattle.judge_coding.specs.Translations.{Breaks28, RightAt, CodesIn, letters_in, SaysRight, CheckedOf, Checks, Rights}
use Rattle.judge_coding.specs.Coding.{Settled}
use Rattle.judge_coding.specs.declared.SoFar.{SoFar}
use Rattle.judge_coding.specs.declared.Codons.{Codons}
use Rattle.judge_qualifiers.proofs.Loops.{SeenSo, one_more, stuck, all_seen}

-- ---- one value

module _ {x : Codons} {value : Range} {right : rust.Option Range} {v : List ℕ} (shown : ShowsBytes x.s.now value.from value.to v) where
  pub right_codes : {y : Bool} → right ≡ None → Compares (code_of x.of.code.now) x.of.r.now x.of.loc.now x.of.top x.of.frame v y → SaysRight x value right y
  right_codes e c = record { says = λ t k a u i. c.says t k u.read (part_shows i shown) }

  -- a value is right exactly when it equals a right one
  pub right_same : {p : Range} {w : List ℕ} (y : Bool) → right ≡ Some p → ShowsBytes x.s.now p.from p.to w → Tells y (v ≡ w) → SaysRight x value right y
  right_same {p} {w} y e h z =
      record { says = λ t k a u i. let b = subst (RightAt x.s.now (letters_in x t)) e a in same (letters_in x t) u.read b.0.read (part_shows i shown) (part_shows b.1 h) b.2 y z }
    where
      same : (l a b : List ℕ) → v ≡ raw a → w ≡ raw b → RightValue l b → (y : Bool) → Tells y (v ≡ w) → RightIf l a y
      same l a b f g q true z = subst (RightValue l) (raw_once b a (sym g ∙ sym z ∙ f)) q
      same l a b f g q false z = λ k. z (f ∙ ap raw (k.same ∙ sym q.same) ∙ sym g)

-- ---- one qualifier

-- which value was found
value_none : (s : List ℕ) (o : Option (Text ℕ)) → MaybeIs s o None → o ≡ none
value_none s none m = refl
value_none s (some u) m = absurd m

value_some : (s : List ℕ) (p : Range) (o : Option (Text ℕ)) → MaybeIs s o (Some p) → (u : Text ℕ) × (o ≡ some u) × IsPart s u p
value_some s p none m = absurd m
value_some s p (some u) m = (u, refl, m)

name_is : {s w : List ℕ} {name : Range} {t : Bool} {u : Text ℕ} → ShowsBytes s name.from name.to w → IsPart s u name → t ≡ true → Tells t (w ≡ bytes "translation")
    → u.read ≡ bytes "translation"
name_is {t = t} {u = u} shown i e tells = (tells_word (bytes "translation") refl true (tells_true t e tells)).says u.read (part_shows i shown)

-- a fault, and one qualifier more
module _ {s x : List ℕ} {known : SoFar} (l : List (Qualifier ℕ)) (q : Qualifier ℕ) (so : CheckedOf s x known l) where
  -- it breaks nothing
  checked_clean : {k : rust.Option Range} → ((n p : ℕ) → ¬ Breaks28 x (suc (length l)) q n p) → RightAt s x k → CheckedOf s x (record { fault = known.fault; right = k }) (l ++ (q ∷ []))
  checked_clean h k =
      record { first = some_more (Breaks28 x) l q so.first (firsts_none (Breaks28 x (suc (length l)) q) h) (earlier_clean known.fault); right = k }

  -- it breaks rule 28
  checked_broken : {p : ℕ} {r : Fault} → p ≡ value_place q.value q.name → Named "translation" q
      → ¬ ((value_read q ≡ some (drop_stop x)) × (has_stop_inside x ≡ false)) → Earlier known.fault (fault_at 28 p) r → CheckedOf s x (record { fault = r; right = known.right }) (l ++ (q ∷ []))
  checked_broken e n w g =
      record {
        first = some_more (Breaks28 x) l q so.first (record { is = record { broken = (refl, e, n, w); least = λ m j b. inr (e ∙ sym b.1, omega (arith, b.0)) } }) g;
        right = so.right;
      }

  -- whatever it breaks comes later
  checked_settled : {p : ℕ} → p ≡ value_place q.value q.name → Settled known.fault p → CheckedOf s x known (l ++ (q ∷ []))
  checked_settled {p} e h = record { first = later known.fault so.first h; right = so.right }
    where
      later : (a : Fault) → Firsts (InSome (Breaks28 x) l) a → Settled a p → Firsts (InSome (Breaks28 x) (l ++ (q ∷ []))) a
      later None f h = absurd h
      later (Some d) f h = some_later (Breaks28 x) l q f (λ m j b. inl (omega (arith, h, e, b.1)))

module _ {x : Codons} {name : Range} {value : rust.Option Range} {known : SoFar} {w : List ℕ} {t : Bool}
    (shown : ShowsBytes x.s.now name.from name.to w) (tells : Tells t (w ≡ bytes "translation")) where
  pub checks_other : t ≡ false → Checks x name value known known
  checks_other e =
      record {
        says =
            λ z c l so q i m.
            checked_clean l q so
            (λ n p b. (tells_word (bytes "translation") refl false (tells_false t e tells)).says q.name.read (part_shows i shown) b.2) so.right;
      }

  pub checks_absent : {y : Fault} → t ≡ true → value ≡ None → Earlier known.fault (fault_at 28 name.from) y
      → Checks x name value known (record { fault = y; right = known.right })
  checks_absent e v g =
      record {
        says =
            λ z c l so q i m.
            let o = value_none x.s.now q.value (subst (MaybeIs x.s.now q.value) v m) in
            checked_broken l q so (i.first ∙ sym (ap (λ (y : Option (Text ℕ)). value_place y q.name) o)) (name_is shown i e tells)
            (λ h. none-ne-some (drop_stop (letters_in x z)) (sym (ap (opt (λ (y : Text ℕ). y.read)) o) ∙ h.0)) g;
      }

  module _ {p : Range} (e : t ≡ true) (v : value ≡ Some p) where
    pub checks_settled : {y : Bool} → y ≡ true → Tells y (Settled known.fault p.from) → Checks x name value known known
    checks_settled {y} h k =
        record {
          says =
              λ z c l so q i m.
              let o = value_some x.s.now p q.value (subst (MaybeIs x.s.now q.value) v m) in
              checked_settled l q so (o.2.first ∙ sym (ap (λ (y : Option (Text ℕ)). value_place y q.name) o.1)) (tells_true y h k);
        }

    module _ {y : Bool} (says : SaysRight x p known.right y) where
      pub checks_right : y ≡ true → Checks x name value known (record { fault = known.fault; right = Some p })
      checks_right h =
          record {
            says =
                λ z c l so q i m.
                let o = value_some x.s.now p q.value (subst (MaybeIs x.s.now q.value) v m) in
                let k = subst (RightIf (letters_in x z) o.0.read) h (says.says z c so.right o.0 o.2) in
                checked_clean l q so (λ n d b. b.3 (ap (opt (λ (y : Text ℕ). y.read)) o.1 ∙ ap some k.same, k.clear))
                (o.0, o.2, k);
          }

      pub checks_wrong : {b : Fault} → y ≡ false → Earlier known.fault (fault_at 28 p.from) b
          → Checks x name value known (record { fault = b; right = known.right })
      checks_wrong h g =
          record {
            says =
                λ z c l so q i m.
                let o = value_some x.s.now p q.value (subst (MaybeIs x.s.now q.value) v m) in
                let k = subst (RightIf (letters_in x z) o.0.read) h (says.says z c so.right o.0 o.2) in
                checked_broken l q so (o.2.first ∙ sym (ap (λ (y : Option (Text ℕ)). value_place y q.name) o.1)) (name_is shown i e tells)
                (λ d. k (record { clear = d.1; same = some-injective o.0.read (drop_stop (letters_in x z)) (sym (ap (opt (λ (y : Text ℕ). y.read)) o.1) ∙ d.0) })) g;
          }

-- ---- all of them

-- of the qualifiers passed
pub record Checking (x : Codons) (first at : ℕ) (known : SoFar) : Type 0 where
  pub is : (t : Location) → CodesIn x t → SeenSo x.s.now first at (CheckedOf x.s.now (letters_in x t) known)

module _ {x : Codons} {first : ℕ} where
  pub checking_none : Checking x first first (record { fault = None; right = None })
  checking_none =
      record {
        is =
            λ t c.
            seen_none (child qualifier) closing first (CheckedOf x.s.now (letters_in x t) (record { fault = None; right = None }))
            (record { first = some_none (Breaks28 (letters_in x t)); right = tt });
      }

  module _ {at : ℕ} {known : SoFar} {h : Bool} (here : TellsChild x.s.now at h) (w : Checking x first at known) where
    pub checking_next : {f : FoundQualifier} {y : SoFar} → h ≡ true → MeetsQualifier x.s.now at f → Checks x f.name f.value known y
        → Checking x first f.next y
    checking_next {y = y} e f k =
        record {
          is =
              λ t c.
              one_more (CheckedOf x.s.now (letters_in x t) known) (CheckedOf x.s.now (letters_in x t) y) e here (w.is t c) f
              (λ l q i m z. k.says t c l z q i m);
        }

    pub checking_stuck : {f : FoundQualifier} → h ≡ true → MeetsQualifier x.s.now at f → f.next ≤ at → Rights x first known.fault
    checking_stuck e f n = record { says = λ t c l j d fol. absurd (stuck (CheckedOf x.s.now (letters_in x t) known) e here (w.is t c) f n l j d fol) }

    pub checking_done : h ≡ false → Rights x first known.fault
    checking_done e = record { says = λ t c l j d fol. (all_seen (CheckedOf x.s.now (letters_in x t) known) e here (w.is t c) l j d fol).0.first }
