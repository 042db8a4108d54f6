-- No feature has in it what a feature table's end tag starts with: none of the words has that it is written with. So the first such place
-- is the table's end.
use Prim.Native.Nat.{ℕ, zero, suc, ◌+◌, ◌-◌, ◌≤◌, ◌<◌}
use native.Mathlib.Decide.{dec_le, dec_lt}
use native.Mathlib.Omega.{arith}
use mathlib.Core.Path.{◌≡◌, refl, sym, ap, ◌∙◌, subst}
use mathlib.Core.Bool.{Bool, true, false, ◌&&◌, ◌||◌, not, and-eq-true_iff}
use mathlib.Core.Logic.{◌↔◌, inl, inr}
use mathlib.Core.List.{List, [], ◌∷◌, ◌++◌}
use mathlib.Core.Option.{Option, none, some}
use lib.ListN.{length, drop, get_or, length-drop, get_or-eq_default}
use lib.Seq.{drop-drop, get_or-drop}
use lib.Dec.{eqb}
use borrow.Author.Tests.{eq-eqb, ne_eqb}
use Rattle.paper.specs.Bytes.{bytes, all, raw, is_blank, is_printed}
use Rattle.paper.specs.Form.{Form, these, lit, ◌·◌, ◌∪◌, given, maybe, each}
use Rattle.paper.specs.Tree.{Text, Qualifier, Feature}
use Rattle.paper.specs.Layout.{blanks, text, tag, close, content, leaf, child, holding, holding?, qualifier, quals, feature}
use Rattle.paper.proofs.Texts.{raw_all}
use Rattle.read_steps.specs.Follow.{Starts, first}
use Rattle.read_steps.proofs.Fronts.{false_true}
use Rattle.walk_steps.specs.Stands.{Stands, Over, others}
use Rattle.walk_steps.proofs.Leaves.{free_lt}
use Rattle.walk_items.specs.Items.{EndingAt, NoEnding, FirstEnding, table_closing}

-- ---- words

-- there is a byte at n, and it isn't `S`
abbrev no_s : ℕ → List ℕ → Bool
no_s n [] = false
no_s zero (b ∷ w) = not (eqb b 83)
no_s (suc n) (b ∷ w) = no_s n w

-- so it is at six bytes from each `<`
abbrev quiet : List ℕ → Bool
quiet [] = true
quiet (b ∷ w) = (not (eqb b 60) || no_s 5 w) && quiet w

no_s_more : (n : ℕ) (w z : List ℕ) → no_s n w ≡ true → no_s n (w ++ z) ≡ true
no_s_more n [] z p = absurd (false_true p)
no_s_more zero (b ∷ w) z p = p
no_s_more (suc n) (b ∷ w) z p = no_s_more n w z p

no_s_at : (n : ℕ) (w z : List ℕ) → no_s n w ≡ true → get_or (w ++ z) n 0 ≡ 83 → ⊥
no_s_at n [] z p e = false_true p
no_s_at zero (b ∷ w) z p e = false_true (sym (ap not (eq-eqb b 83 e)) ∙ p)
no_s_at (suc n) (b ∷ w) z p e = no_s_at n w z p e

quiet_byte : (b : ℕ) (w : List ℕ) → (quiet (b ∷ w) ≡ true) ↔ (((not (eqb b 60) || no_s 5 w) ≡ true) × (quiet w ≡ true))
quiet_byte b w = and-eq-true_iff (not (eqb b 60) || no_s 5 w) (quiet w)

quiet_append : (u v : List ℕ) → quiet u ≡ true → quiet v ≡ true → quiet (u ++ v) ≡ true
quiet_append [] v p q = q
quiet_append (b ∷ u) v p q =
    let y = (quiet_byte b u).0 p in
    (quiet_byte b (u ++ v)).1 (by_byte (eqb b 60) y.0, quiet_append u v y.1 q)
  where
    by_byte : (t : Bool) → (not t || no_s 5 u) ≡ true → (not t || no_s 5 (u ++ v)) ≡ true
    by_byte true h = no_s_more 5 u v h
    by_byte false h = refl

-- bytes of a class that `<` isn't of
quiet_all : (f : ℕ → Bool) → f 60 ≡ false → (w : List ℕ) → all f w → quiet w ≡ true
quiet_all f e [] a = refl
quiet_all f e (b ∷ w) a =
    (quiet_byte b w).1 (ap (λ (t : Bool). not t || no_s 5 w) (ne_eqb b 60 (λ q. false_true (sym e ∙ ap f (sym q) ∙ a.0))), quiet_all f e w a.1)

-- whatever comes behind a quiet word, no end starts in it
quiet_at : (w z : List ℕ) (i : ℕ) → quiet w ≡ true → i < length w → get_or (drop i (w ++ z)) 0 0 ≡ 60 → get_or (drop i (w ++ z)) 6 0 ≡ 83 → ⊥
quiet_at [] z i q h a b = absurd (omega arith)
quiet_at (c ∷ w) z zero q h a b = no_s_at 5 w z (sym (ap (λ (t : Bool). not t || no_s 5 w) (eq-eqb c 60 a)) ∙ ((quiet_byte c w).0 q).0) b
quiet_at (c ∷ w) z (suc i) q h a b = quiet_at w z i ((quiet_byte c w).0 q).1 (omega arith) a b

-- ---- forms

record Quiet (F : Form) : Type 0 where
  is : (at : ℕ) (w : List ℕ) → F at w → quiet w ≡ true

quiet_these : {k : List ℕ} → quiet k ≡ true → Quiet (these k)
quiet_these h = record { is = λ at w d. ap quiet d ∙ h }

quiet_seq : {F G : Form} → Quiet F → Quiet G → Quiet (F · G)
quiet_seq f g =
    record {
      is = λ at w d. ap quiet d.2 ∙ quiet_append d.0 d.1 (f.is at d.0 d.3) (g.is (at + length d.0) d.1 d.4);
    }

quiet_or : {F G : Form} → Quiet F → Quiet G → Quiet (F ∪ G)
quiet_or {F} {G} f g = record { is = by_kind }
  where
    by_kind : (at : ℕ) (w : List ℕ) → (F ∪ G) at w → quiet w ≡ true
    by_kind at w (inl d) = f.is at w d
    by_kind at w (inr d) = g.is at w d

quiet_given : (A : Type 0) {F : Form} → Quiet F → Quiet (given A F)
quiet_given A f = record { is = λ at w d. f.is at w d.1 }

quiet_maybe : {A : Type 0} {F : A → Form} → ((a : A) → Quiet (F a)) → (o : Option A) → Quiet (maybe F o)
quiet_maybe f none = quiet_these refl
quiet_maybe f (some a) = f a

quiet_each : {A : Type 0} {F : A → Form} → ((a : A) → Quiet (F a)) → (l : List A) → Quiet (each F l)
quiet_each f [] = quiet_these refl
quiet_each f (a ∷ l) = quiet_seq (f a) (quiet_each f l)

quiet_blanks : Quiet blanks
quiet_blanks = record { is = λ at w d. quiet_all is_blank refl w d }

quiet_text : (allowed : ℕ → Bool) (t : Text ℕ) → Quiet (text allowed t)
quiet_text allowed t = record { is = λ at w d. ap quiet d.2 ∙ quiet_all (others 60) refl (raw t.read) (raw_all (others 60) free_lt t.read) }

quiet_child : {A : Type 0} {F : A → Form} → ((a : A) → Quiet (F a)) → (a : A) → Quiet (child F a)
quiet_child f a = quiet_seq (f a) quiet_blanks

-- an element whose tags are
module _ (name : List ℕ) (opens : quiet (bytes "<" ++ name) ≡ true) (closes : quiet (bytes "</" ++ name) ≡ true) where
  quiet_close : Quiet (close name)
  quiet_close = quiet_seq (quiet_seq (quiet_these closes) quiet_blanks) (quiet_these refl)

  -- one that may be written `<X/>`
  quiet_short : {A : Type 0} {C : Form} → Quiet C → Quiet (blanks · (given A (lit "/>") ∪ C · close name))
  quiet_short {A} c = quiet_seq quiet_blanks (quiet_or (quiet_given A (quiet_these refl)) (quiet_seq c quiet_close))

  quiet_leaf : (t : Text ℕ) → Quiet (leaf name t)
  quiet_leaf t =
      record {
        is = λ at w d. (quiet_seq {F = tag name} {G = content name is_printed at t} (quiet_these opens) (quiet_short (quiet_seq (quiet_these refl) (quiet_text is_printed t)))).is at w d;
      }

  quiet_holding : {C : Form} → Quiet C → Quiet (tag name · holding name C)
  quiet_holding c =
      quiet_seq (quiet_these opens)
      (quiet_seq quiet_blanks (quiet_seq (quiet_seq (quiet_seq (quiet_these refl) quiet_blanks) c) quiet_close))

  quiet_holding? : {A : Type 0} {C : Form} → Quiet C → Quiet (tag name · holding? name A C)
  quiet_holding? c = quiet_seq (quiet_these opens) (quiet_short (quiet_seq (quiet_seq (quiet_these refl) quiet_blanks) c))

quiet_qualifier : (q : Qualifier ℕ) → Quiet (qualifier q)
quiet_qualifier q =
    quiet_holding (bytes "INSDQualifier") refl refl
    (quiet_seq (quiet_child (quiet_leaf (bytes "INSDQualifier_name") refl refl) q.name)
    (quiet_maybe (quiet_child (quiet_leaf (bytes "INSDQualifier_value") refl refl)) q.value))

quiet_quals : (l : List (Qualifier ℕ)) → Quiet (quals l)
quiet_quals l = quiet_holding? (bytes "INSDFeature_quals") refl refl (quiet_each (quiet_child quiet_qualifier) l)

quiet_feature : (f : Feature ℕ) → Quiet (feature f)
quiet_feature f =
    quiet_holding (bytes "INSDFeature") refl refl
    (quiet_seq
    (quiet_seq (quiet_child (quiet_leaf (bytes "INSDFeature_key") refl refl) f.key)
    (quiet_child (quiet_leaf (bytes "INSDFeature_location") refl refl) f.location))
    (quiet_maybe (quiet_child quiet_quals) f.quals))

-- ---- the search

module _ (s : List ℕ) where
  pub ending_none : (at : ℕ) → NoEnding s at at
  ending_none at k h j = absurd (omega arith)

  pub ending_more : (from at : ℕ) → NoEnding s from at → (EndingAt s at → ⊥) → NoEnding s from (at + 1)
  ending_more from at u n k i j x = cases (dec_le at k)
    where
      cases : Dec (at ≤ k) → ⊥
      cases (yes l) = n (subst (EndingAt s) (omega arith) x)
      cases (no l) = u k i (omega arith) x

  pub ending_join : (from mid at : ℕ) → NoEnding s from mid → NoEnding s mid at → NoEnding s from at
  ending_join from mid at u v k i j x = cases (dec_le mid k)
    where
      cases : Dec (mid ≤ k) → ⊥
      cases (yes l) = v k l j x
      cases (no l) = u k i (omega arith) x

  -- nor at the last six bytes
  pub none_behind : (from : ℕ) → length s ≤ from + 6 → (to : ℕ) → NoEnding s from to
  none_behind from n to k i j x = absurd (zero_s (sym (get_or-eq_default s 0 {n = k + 6} (omega (arith, n, i))) ∙ x.1))
    where
      zero_s : ◌≡◌ {A = ℕ} 0 83 → ⊥
      zero_s e = omega (arith, e)

-- past places where no end starts
pub ending_later : {s : List ℕ} {from at r : ℕ} → from ≤ at → NoEnding s from at → FirstEnding s at r → FirstEnding s from r
ending_later {s} {from} {at} {r} h u f = record { onward = omega (arith, h, f.onward); each = ending_join s from at r u f.each; there = f.there }

pub first_ending : {s : List ℕ} {at r : ℕ} → FirstEnding s at r → Over (each (child feature)) (Starts table_closing) s at r
first_ending {s} {at} {r} f = record { is = ends }
  where
    byte : (k : ℕ) → get_or (drop k s) 0 0 ≡ get_or s k 0
    byte k = let q : k + 0 ≡ k = omega arith in get_or-drop k s 0 0 ∙ ap (λ (j : ℕ). get_or s j 0) q

    -- where the end tag stands
    ended : (e : ℕ) → Starts table_closing (drop e s) → (e + 6 < length s) × EndingAt s e
    ended e (Rattle.read_steps.specs.Follow.later x4) = elim x4 [ ]
    ended e (first y h) = (
      omega (arith, length-drop e s, ap length h),
      (sym (byte e) ∙ ap (λ (u : List ℕ). get_or u 0 0) h, sym (get_or-drop e s 6 0) ∙ ap (λ (u : List ℕ). get_or u 6 0) h),
    )

    ends : (l : List (Feature ℕ)) (e : ℕ) → Stands (each (child feature) l) s at e → Starts table_closing (drop e s) → r ≡ e
    ends l e d fol = cases (dec_lt r e) (dec_lt e r)
      where
        cases : Dec (r < e) → Dec (e < r) → r ≡ e
        cases (yes h) k =
            let i = r - at in
            let q : at + i ≡ r = omega (arith, f.onward) in
            let here : drop i (d.word ++ drop e s) ≡ drop r s = ap (drop i) (sym d.here) ∙ drop-drop i at s ∙ ap (λ (j : ℕ). drop j s) q in
            let x = f.there (omega (arith, (ended e fol).0)) in
            absurd
            (quiet_at d.word (drop e s) i ((quiet_each (quiet_child quiet_feature) l).is at d.word d.laid) (omega (arith, d.size, f.onward))
            (ap (λ (u : List ℕ). get_or u 0 0) here ∙ byte r ∙ x.0) (ap (λ (u : List ℕ). get_or u 6 0) here ∙ get_or-drop r s 6 0 ∙ x.1))
        cases (no h) (yes k) = absurd (f.each e (omega (arith, d.size)) k (ended e fol).1)
        cases (no h) (no k) = omega arith
