-- Laws of `Stands`: a text in parts, bytes that are passed by their number, and runs of a class.
use Rattle.std.proofs.Common.{◌≡◌, ℕ, zero, suc, ◌+◌, ◌-◌, ◌<◌, ◌≤◌, Bool, true, false, not, List, [], ◌∷◌, ◌++◌, length, get_or, drop, sym, refl, ap, ◌∙◌, subst, append_assoc, arith, length-append, length-drop, get_or-drop, drop-drop, get_or-append-add, ne_eqb}
use native.Mathlib.Decide.{dec_lt}
use lib.Seq.{drop-append_seam}
use Rattle.paper.specs.Bytes.{all}
use Rattle.paper.specs.Form.{Form, these, run, ◌·◌, each, each⁺}
use Rattle.read_steps.specs.Follow.{Not}
use Rattle.read_steps.specs.Texts.{Scanned, Upto, is_plain}
use Rattle.read_steps.proofs.Fronts.{false_true}
use Rattle.walk_steps.specs.Stands.{Stands, Past, Ends, others}

-- F and then G: F, and where it ends G
pub part : (F G : Form) {s : List ℕ} {at e : ℕ} → Stands (F · G) s at e → (b : ℕ) × Stands F s at b × Stands G s b e
part F G {s} {at} {e} x =
    let d = x.laid in
    let u = d.0 in
    let v = d.1 in
    let b = at + length u in
    let whole : drop at s ≡ u ++ (v ++ drop e s) = x.here ∙ ap (λ (l : List ℕ). l ++ drop e s) d.2 ∙ append_assoc u v (drop e s) in
    let later : drop b s ≡ v ++ drop e s = sym (drop-drop (length u) at s) ∙ ap (drop (length u)) whole ∙ drop-append_seam u (v ++ drop e s) in (
      b,
      record { word = u; laid = d.3; size = refl; here = whole ∙ ap (λ (l : List ℕ). u ++ l) (sym later) },
      record { word = v; laid = d.4; size = omega (arith, x.size, ap length d.2, length-append u v); here = later },
    )

-- where bytes end, one at least, is within s
pub these_inside : (k : List ℕ) {s : List ℕ} {at e : ℕ} → Stands (these k) s at e → 0 < length k → e ≤ length s
these_inside k {s} {at} {e} x h = omega (arith, h, x.size, ap length x.laid, ap length x.here, length-append x.word (drop e s), length-drop at s)

pub join : {F G : Form} {s : List ℕ} {at b e : ℕ} → Stands F s at b → Stands G s b e → Stands (F · G) s at e
join {F} {G} {s} {at} {b} {e} x y =
    let u = x.word in
    let v = y.word in
    record {
      word = u ++ v;
      laid = (u, v, refl, x.laid, subst (λ (a : ℕ). G a v) x.size y.laid);
      size = omega (arith, x.size, y.size, length-append u v);
      here = x.here ∙ ap (λ (l : List ℕ). u ++ l) y.here ∙ sym (append_assoc u v (drop e s));
    }

-- as a text of a wider form
pub wider : {F G : Form} {s : List ℕ} {at e : ℕ} → ((a : ℕ) (w : List ℕ) → F a w → G a w) → Stands F s at e → Stands G s at e
wider {at = at} h x = record { word = x.word; laid = h at x.word x.laid; size = x.size; here = x.here }

-- one or more are any number
pub some_each : {A : Type 0} (F : A → Form) (l : List A) (at : ℕ) (w : List ℕ) → each⁺ F l at w → each F l at w
some_each F [] at w d = absurd d
some_each F (a ∷ l) at w d = d

pub some_not : {A : Type 0} (F : A → Form) (l : List A) {s : List ℕ} {at e : ℕ} → Stands (each⁺ F l) s at e → ¬ (l ≡ [])
some_not F l {at = at} d h = subst (λ (k : List _). each⁺ F k at d.word) h d.laid

-- where nothing stands, what follows is here
pub nothing_stands : {s : List ℕ} {at e : ℕ} → Stands (these []) s at e → at ≡ e
nothing_stands d = omega (arith, d.size, ap length d.laid)

-- what stands at a place has the property of its form's texts
pub before : {F : Form} (P : List ℕ → Type 0) {s : List ℕ} {at e : ℕ} (x : Stands F s at e) → P (x.word ++ drop e s) → P (drop at s)
before P x h = subst P (sym x.here) h

-- what stands from a place stands from a place that is the same
pub from : {F : Form} {s : List ℕ} {at b e : ℕ} → at ≡ b → Stands F s b e → Stands F s at e
from {F} {s} {e = e} h x = subst (λ (a : ℕ). Stands F s a e) (sym h) x

-- ---- bytes that stand are passed by their number

pub past_these : (x : List ℕ) {s : List ℕ} {at e n r : ℕ} → n ≡ length x → Past s at n r → Stands (these x) s at e → r ≡ e
past_these x {s} {e = e} h p d =
    omega (
      arith,
      h,
      d.size,
      ap length d.laid,
      p.is (omega (arith, h, ap length d.laid, ap length d.here, length-append d.word (drop e s))),
    )

-- two words, one after another
pub split : (x y : List ℕ) {s : List ℕ} {at e : ℕ} → Stands (these (x ++ y)) s at e → Stands (these x · these y) s at e
split x y d = record { word = d.word; laid = (x, y, d.laid, refl, refl); size = d.size; here = d.here }

pub pasts : (x y : List ℕ) {s : List ℕ} {at e a n r : ℕ} → length x ≡ n → Past s at n a → Past s a (length y) r → Stands (these (x ++ y)) s at e → r ≡ e
pasts x y {s} {n = n} {r = r} h p q d =
    let u = part (these x) (these y) (split x y d) in
    past_these y refl (subst (λ (a : ℕ). Past s a (length y) r) (past_these x (sym h) p u.1) q) u.2

-- ---- runs

module _ (f : ℕ → Bool) where
  all_at : (w : List ℕ) (i : ℕ) (z : List ℕ) → i < length w → all f w → f (get_or (w ++ z) i 0) ≡ true
  all_at [] i z h a = absurd (omega arith)
  all_at (b ∷ w) zero z h a = a.0
  all_at (b ∷ w) (suc i) z h a = all_at w i z (omega arith) a.1

  not_first : (z : List ℕ) → 0 < length z → Not f z → f (get_or z 0 0) ≡ false
  not_first [] h n = absurd (omega arith)
  not_first (b ∷ z) h n = n

  -- a scan ends where a run of its class does
  pub scan_end : {s : List ℕ} {at r : ℕ} → Scanned f s at (length s) r → (w z : List ℕ) → drop at s ≡ w ++ z → all f w → Not f z → r ≡ at + length w
  scan_end {s} {at} {r} c w z h a n = cases (dec_lt r (at + length w)) (dec_lt (at + length w) r)
    where
      sizes : length s - at ≡ length w + length z
      sizes = sym (length-drop at s) ∙ ap length h ∙ length-append w z

      byte : (i : ℕ) → get_or s (at + i) 0 ≡ get_or (w ++ z) i 0
      byte i = sym (get_or-drop at s i 0) ∙ ap (λ (l : List ℕ). get_or l i 0) h

      cases : Dec (r < at + length w) → Dec (at + length w < r) → r ≡ at + length w
      cases (yes l) k =
          let i = r - at in
          let e : at + i ≡ r = omega (arith, c.onward) in
          absurd
          (false_true
          (sym (c.ends (omega (arith, sizes, c.onward))) ∙ ap (λ (j : ℕ). f (get_or s j 0)) (sym e) ∙ ap f (byte i)
          ∙ all_at w i z (omega (arith, c.onward)) a))
      cases (no l) (yes k) =
          let u = c.each (at + length w) (omega arith) k in
          let m : 0 < length z = omega (arith, sizes, u.0) in
          absurd
          (false_true
          (sym (not_first z m n) ∙ ap f (ap (λ (j : ℕ). get_or z j 0) refl) ∙ ap f (sym (get_or-append-add w z 0 0)) ∙ ap (λ (j : ℕ). f (get_or (w ++ z) j 0)) (omega arith)
          ∙ ap f (sym (byte (length w))) ∙ u.1))
      cases (no l) (no k) = omega arith

  pub run_ends : {s : List ℕ} {at r : ℕ} → Scanned f s at (length s) r → Ends (run f) (Not f) s at r
  run_ends {s} c = record { is = λ e d n. scan_end c d.word (drop e s) d.here d.laid n ∙ sym d.size }

-- what stands for itself in every text is none of the bytes that do in no text
pub upto_others : (stop : ℕ) (s : List ℕ) (start at : ℕ) → is_plain false stop ≡ false → Upto (is_plain false) s start at → Upto (others stop) s start at
upto_others stop s start at odd u k i j =
    let h = u k i j in
    (h.0, ap not (ne_eqb (get_or s k 0) stop (λ e. false_true (sym odd ∙ ap (is_plain false) (sym e) ∙ h.1))))
