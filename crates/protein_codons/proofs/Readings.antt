-- What is left of a reading, as it goes on.
use Prim.Native.Nat.{ℕ, suc, ◌+◌, ◌*◌, ◌-◌, ◌≤◌, ◌<◌}
use native.Mathlib.Nat.{suc-mul, mul-le-mul_right}
use native.Mathlib.Omega.{arith}
use mathlib.Core.Path.{◌≡◌, refl, sym, ap, ◌∙◌, subst}
use mathlib.Core.Bool.{Bool, true, false}
use mathlib.Core.List.{List, [], ◌∷◌, ◌++◌, map, reverse}
use lib.ListN.{length, take, drop, get_or}
use lib.Seq.{slice, slice_empty, take-suc, drop-drop, drop-nil}
use Rattle.paper.specs.Locations.{Location}
use Rattle.paper.specs.Locations as paper
use Rattle.paper.specs.Translation.{Code, bases_of, complement_of, coding_text, codon_letter, letters}
use Rattle.protein_code.specs.Tables.{set_bases, sets_letter}
use Rattle.protein_blocks.specs.Blocks.{letter_from}
use Rattle.std.specs.Prelude.{None, Some}
use Rattle.location_spans.specs.Walking.{Left, steps_left, Starts, Steps}
use Rattle.location_spans.specs.declared.walking.Walk.{Walk}
use Rattle.location_spans.specs.declared.walking.Started.{Started}
use Rattle.location_spans.specs.declared.walking.NextSpan.{NextSpan}
use Rattle.protein_codons.specs.declared.Reading.{Reading}
use Rattle.protein_codons.specs.Reading.{Ready, strand, current, span_letters, place_of, TextLeft, residues_left, Opens, Fills, BaseIs, Onward, Gives, LetterIs, Skips, Codes, BeginsText, Ends}
use Rattle.protein_codons.proofs.Residues.{strand_none, first_ahead, first_behind, three_ahead, three_behind, strand_length, drop_ahead, drop_behind}
use Rattle.protein_codons.proofs.Codons.{letters_within, letters_split, letters_at}

-- ---- how much may be left

-- one step of a walk outweighs a span
outweighs : {v w : ℕ} (n : ℕ) {b : ℕ} → v < w → b ≤ n → v * suc n + b < w * suc n
outweighs {v} {w} n {b} h k =
    let m : suc v * suc n ≤ w * suc n = mul-le-mul_right (suc n) (omega arith) in
    omega (arith, suc-mul v (suc n))

module _ (n m : ℕ) (x y : Reading) where
  pub less_residues : y.walk ≡ x.walk → y.span.high - y.span.low < x.span.high - x.span.low → residues_left n m y < residues_left n m x
  unfolding residues_left
  less_residues e h = rw e (omega arith)

  pub less_steps : steps_left m y.walk < steps_left m x.walk → y.span.high ≤ n → residues_left n m y < residues_left n m x
  unfolding residues_left
  less_steps h k =
      let a = outweighs n {b = y.span.high - y.span.low} h (omega arith) in
      omega arith

-- ---- the next span

spent : (s : List ℕ) (x : Reading) → x.span.low ≡ x.span.high → current s x ≡ []
spent s x e =
    ap (λ (low : ℕ). strand x.span.turned (slice low x.span.high s)) e
    ∙ ap (strand x.span.turned) (slice_empty x.span.high s)
    ∙ strand_none x.span.turned

-- the loop's invariant
pub record Filling (s loc : List ℕ) (L : ℕ) (x y : Reading) : Type 0 where
  pub ready : Ready (length s) y
  pub falls : residues_left (length s) (length loc) y ≤ residues_left (length s) (length loc) x
  pub keeps : (text : List ℕ) → TextLeft s loc L x text → TextLeft s loc L y text

module _ {s loc : List ℕ} {L : ℕ} where
  pub filling_start : {x : Reading} → Ready (length s) x → Filling s loc L x x
  filling_start r = record { ready = r; falls = omega arith; keeps = λ text h. h }

  module _ {x y : Reading} (f : Filling s loc L x y) where
    pub filling_full : (y.span.low ≡ y.span.high → ⊥) → Fills s loc L x y
    filling_full e = record { ready = f.ready; falls = f.falls; keeps = f.keeps; ends = λ q. absurd (e q) }

    module _ (e : y.span.low ≡ y.span.high) where
      only_others : (text : List ℕ) (h : TextLeft s loc L y text) → text ≡ coding_text s h.others
      only_others text h = h.is ∙ ap (λ (l : List ℕ). l ++ coding_text s h.others) (spent s y e)

      pub filling_done : Steps loc L y.walk None → Fills s loc L x y
      filling_done g =
          record {
            ready = f.ready;
            falls = f.falls;
            keeps = f.keeps;
            ends = λ q text h.
                let u = f.keeps text h in
                only_others text u ∙ ap (coding_text s) (g.yields u.others u.left);
          }

      module _ (top : L ≤ length s) {n : NextSpan} {z : Reading} (g : Steps loc L y.walk (Some n)) (o : Opens n.span n.left z) where
        pub fewer_steps : steps_left (length loc) z.walk < steps_left (length loc) y.walk
        fewer_steps = rw o.walk g.within.1

        pub filling_next : Filling s loc L x z
        filling_next =
            let inside = g.within.0 in
            let high : z.span.high ≤ length s = omega (arith, o.inside, inside.last_high) in
            record {
              ready = record { order = o.order; inside = high };
              falls = omega (arith, less_steps (length s) (length loc) y z fewer_steps high, f.falls);
              keeps = λ text h.
                  let u = f.keeps text h in
                  let k = g.yields u.others u.left in
                  record {
                    others = k.0;
                    left = subst (λ (w : Walk). Left loc L w k.0) (sym o.walk) k.2;
                    is = only_others text u
                        ∙ ap (coding_text s) k.1
                        ∙ ap (λ (l : List ℕ). l ++ coding_text s k.0) (sym (o.is s (omega (arith, inside.first_high))));
                  };
            }

-- ---- the next residue, and the next codon

-- in the same walk the same spans are left behind the current one
left_on : {s loc : List ℕ} {L : ℕ} {x y : Reading} {text : List ℕ} (h : TextLeft s loc L x text) → y.walk ≡ x.walk
    → TextLeft s loc L y (current s y ++ coding_text s h.others)
left_on {s} {loc} {L} h e = record { others = h.others; left = subst (λ (w : Walk). Left loc L w h.others) (sym e) h.left; is = refl }

-- y has the walk of x, and of its current span all but the residue a at its front
pub record Passes (s : List ℕ) (x : Reading) (a : ℕ) (y : Reading) : Type 0 where
  pub order : y.span.low ≤ y.span.high
  pub inside : y.span.high ≤ length s
  pub walk : y.walk ≡ x.walk
  pub less : y.span.high - y.span.low < x.span.high - x.span.low
  pub is : current s x ≡ a ∷ current s y

module _ (s : List ℕ) (x : Reading) (inside : x.span.high ≤ length s) where
  module _ (t : x.span.turned ≡ false) where
    on_ahead : (low high : ℕ) → strand x.span.turned (slice low high s) ≡ slice low high s
    on_ahead low high = ap (λ (b : Bool). strand b (slice low high s)) t

    pub pass_ahead : x.span.low < x.span.high
        → Passes s x (get_or s x.span.low 0) (record { walk = x.walk; span = record { low = x.span.low + 1; high = x.span.high; turned = x.span.turned } })
    pass_ahead h =
        let low = x.span.low in
        let high = x.span.high in
        record {
          order = omega arith;
          inside = inside;
          walk = refl;
          less = omega arith;
          is = on_ahead low high ∙ first_ahead s low high h inside ∙ ap (λ (l : List ℕ). get_or s low 0 ∷ l) (sym (on_ahead (low + 1) high));
        }

  module _ (t : x.span.turned ≡ true) where
    on_behind : (low high : ℕ) → strand x.span.turned (slice low high s) ≡ reverse (map complement_of (slice low high s))
    on_behind low high = ap (λ (b : Bool). strand b (slice low high s)) t

    pub pass_behind : x.span.low < x.span.high
        → Passes s x (complement_of (get_or s (x.span.high - 1) 0)) (record { walk = x.walk; span = record { low = x.span.low; high = x.span.high - 1; turned = x.span.turned } })
    pass_behind h =
        let low = x.span.low in
        let high = x.span.high in
        record {
          order = omega arith;
          inside = omega arith;
          walk = refl;
          less = omega arith;
          is = on_behind low high
              ∙ first_behind s low high h inside
              ∙ ap (λ (l : List ℕ). complement_of (get_or s (high - 1) 0) ∷ l) (sym (on_behind low (high - 1)));
        }

module _ (x : Reading) (k : ℕ) (h : x.span.low + 3 * k ≤ x.span.high) where
  pub onward_ahead : x.span.turned ≡ false
      → Onward x k (record { walk = x.walk; span = record { low = x.span.low + 3 * k; high = x.span.high; turned = x.span.turned } })
  onward_ahead t =
      let low = x.span.low in
      let high = x.span.high in
      record {
        walk = refl;
        order = h;
        inside = omega arith;
        size = omega arith;
        is = λ s i. let on = on_ahead s x i t in on (low + 3 * k) high ∙ drop_ahead s low high (3 * k) ∙ ap (drop (3 * k)) (sym (on low high));
      }

  pub onward_behind : x.span.turned ≡ true
      → Onward x k (record { walk = x.walk; span = record { low = x.span.low; high = x.span.high - 3 * k; turned = x.span.turned } })
  onward_behind t =
      let low = x.span.low in
      let high = x.span.high in
      record {
        walk = refl;
        order = omega arith;
        inside = omega arith;
        size = omega arith;
        is = λ s i. let on = on_behind s x i t in on low (high - 3 * k) ∙ drop_behind s low high (3 * k) h i ∙ ap (drop (3 * k)) (sym (on low high));
      }

-- ---- the letters of the current span

span_fits : (s : List ℕ) (low high : ℕ) (turned : Bool) (k : ℕ) → low + 3 * k ≤ high → high ≤ length s → 3 * k ≤ length (strand turned (slice low high s))
span_fits s low high turned k h i = omega (arith, strand_length s turned low high i)

pub span_within : (gc : Code) (s : List ℕ) (low high : ℕ) (turned : Bool) (k : ℕ) → low + 3 * k ≤ high → high ≤ length s → k ≤ length (span_letters gc s low high turned)
unfolding span_letters
span_within gc s low high turned k h i = letters_within gc (strand turned (slice low high s)) k (span_fits s low high turned k h i)

module _ (gc : Code) (s : List ℕ) (low high k : ℕ) (h : low + 3 * k + 3 ≤ high) (i : high ≤ length s) where
  letter_ahead : {turned : Bool} → turned ≡ false
      → codon_letter gc (get_or s (low + 3 * k) 0) (get_or s (low + 3 * k + 1) 0) (get_or s (low + 3 * k + 2) 0) ≡ get_or (span_letters gc s low high turned) k 0
  unfolding span_letters
  letter_ahead t =
      rw t
      (sym
      (letters_at gc (slice low high s) k (span_fits s low high false k (omega arith) i)
      (sym (drop_ahead s low high (3 * k)) ∙ three_ahead s (low + 3 * k) high (omega arith) i)))

  letter_behind : {turned : Bool} → turned ≡ true
      → codon_letter gc (complement_of (get_or s (high - 3 * k - 1) 0)) (complement_of (get_or s (high - 3 * k - 2) 0)) (complement_of (get_or s (high - 3 * k - 3) 0))
      ≡ get_or (span_letters gc s low high turned) k 0
  unfolding span_letters
  letter_behind t =
      rw t
      (sym
      (letters_at gc (reverse (map complement_of (slice low high s))) k (span_fits s low high true k (omega arith) i)
      (sym (drop_behind s low high (3 * k) (omega arith) i) ∙ three_behind s low (high - 3 * k) (omega arith) (omega arith))))

-- the codon that stands there on either strand
pub letter_stands : (gc : Code) (s : List ℕ) (low high : ℕ) (turned : Bool) (k : ℕ) → low + 3 * k + 3 ≤ high → high ≤ length s
    → letter_from gc s turned (place_of low high turned k) ≡ get_or (span_letters gc s low high turned) k 0
letter_stands gc s low high false k h i = letter_ahead gc s low high k h i refl
letter_stands gc s low high true k h i =
    let first : high - (3 * k + 3) + 2 ≡ high - 3 * k - 1 = omega arith in
    let second : high - (3 * k + 3) + 1 ≡ high - 3 * k - 2 = omega arith in
    let third : high - (3 * k + 3) ≡ high - 3 * k - 3 = omega arith in
    rw (first, second, third) (letter_behind gc s low high k h i refl)

pub at_place : (gc : Code) (s : List ℕ) (low high : ℕ) (turned : Bool) (k : ℕ) {at : ℕ} → at ≡ place_of low high turned k → (t : Bool) → turned ≡ t
    → low + 3 * k + 3 ≤ high → high ≤ length s → letter_from gc s t at ≡ get_or (span_letters gc s low high turned) k 0
at_place gc s low high turned k e t f h i = rw (e, ← f) (letter_stands gc s low high turned k h i)

-- k codons of it passed
module _ (s : List ℕ) {x y : Reading} {k : ℕ} (r : Ready (length s) x) (o : Onward x k y) where
  pub run_falls : (m : ℕ) → residues_left (length s) m y + 3 * k ≤ residues_left (length s) m x
  unfolding residues_left
  run_falls m = rw o.walk (omega (arith, o.size))

  pub run_gives : (gc : Code) {loc : List ℕ} {L : ℕ} → Gives gc s loc L x (take k (span_letters gc s x.span.low x.span.high x.span.turned)) y
  unfolding span_letters
  run_gives gc {loc} {L} =
      record {
        ready = record { order = o.order; inside = omega (arith, o.inside, r.inside) };
        gives = λ text h.
            let c = coding_text s h.others in
            let w = current s x in
            let n = span_fits s x.span.low x.span.high x.span.turned k (omega (arith, o.size, o.order)) r.inside in
            record {
              others = current s y ++ c;
              is = ap (letters gc) h.is
                  ∙ letters_split gc w k n c
                  ∙ ap (λ (l : List ℕ). take k (letters gc w) ++ letters gc (l ++ c)) (sym (o.is s r.inside));
              left = left_on h o.walk;
            };
      }

module _ {s loc : List ℕ} {L : ℕ} where
  pub base_is : {x y z : Reading} {a b : ℕ} → Fills s loc L x y → Passes s y a z → b < 16 → set_bases b ≡ bases_of a → BaseIs s loc L x b z
  base_is {x} {y} {z} {a} f p h e =
      record {
        small = h;
        ready = record { order = p.order; inside = p.inside };
        falls = omega (arith, less_residues (length s) (length loc) y z p.walk p.less, f.falls);
        gives = λ text t.
            let u = f.keeps text t in
            let c = coding_text s u.others in
            record { first = a; others = current s z ++ c; is = u.is ∙ ap (λ (l : List ℕ). l ++ c) p.is; set = e; left = left_on u p.walk };
      }

  -- ---- residue by residue

  -- the loop's invariant: k residues are skipped
  pub skipped_one : {x y z : Reading} {k b : ℕ} → Skips s loc L x k y → BaseIs s loc L y b z → Skips s loc L x (k + 1) z
  skipped_one {x} {y} {z} {k} f g =
      record {
        ready = g.ready;
        keeps = λ text h.
            let u = g.gives (drop k text) (f.keeps text h) in
            subst (TextLeft s loc L z) (ap (drop 1) (sym u.is) ∙ drop-drop 1 k text) u.left;
      }

  -- none are left, so that more are skipped
  pub skipped_all : {x y : Reading} {k n : ℕ} → Skips s loc L x k y → ((text : List ℕ) → TextLeft s loc L y text → text ≡ []) → k ≤ n → Skips s loc L x n y
  skipped_all {x} {y} {k} {n} f g h =
      record {
        ready = f.ready;
        keeps = λ text t.
            let u = f.keeps text t in
            let e = g (drop k text) u in
            let m : k + (n - k) ≡ n = omega arith in
            subst (TextLeft s loc L y)
            (e ∙ sym (drop-nil (n - k)) ∙ ap (drop (n - k)) (sym e) ∙ drop-drop (n - k) k text ∙ ap (λ (i : ℕ). drop i text) m) u;
      }

  pub none_left : {x : Reading} (gc : Code) → ((text : List ℕ) → TextLeft s loc L x text → text ≡ []) → (text : List ℕ) → TextLeft s loc L x text → letters gc text ≡ []
  none_left gc h text t = ap (letters gc) (h text t)

  module _ {x x1 : Reading} {a : ℕ} (g1 : BaseIs s loc L x a x1) where
    pub one_left : (gc : Code) → ((text : List ℕ) → TextLeft s loc L x1 text → text ≡ []) → (text : List ℕ) → TextLeft s loc L x text → letters gc text ≡ []
    one_left gc h text t = let u = g1.gives text t in ap (letters gc) (u.is ∙ ap (λ (l : List ℕ). u.first ∷ l) (h u.others u.left))

    module _ {x2 : Reading} {b : ℕ} (g2 : BaseIs s loc L x1 b x2) where
      pub two_left : (gc : Code) → ((text : List ℕ) → TextLeft s loc L x2 text → text ≡ []) → (text : List ℕ) → TextLeft s loc L x text → letters gc text ≡ []
      two_left gc h text t =
          let u = g1.gives text t in
          let v = g2.gives u.others u.left in
          ap (letters gc) (u.is ∙ ap (λ (l : List ℕ). u.first ∷ l) (v.is ∙ ap (λ (l : List ℕ). v.first ∷ l) (h v.others v.left)))

      pub three_bases : {gc : Code} {x3 : Reading} {c r : ℕ} → BaseIs s loc L x2 c x3 → r ≡ sets_letter gc a b c → LetterIs gc s loc L x r x3
      three_bases {gc} {x3} {c} g3 e =
          record {
            falls = omega (arith, g1.falls, g2.falls, g3.falls);
            one = record {
              ready = g3.ready;
              gives = λ text t.
                  let u = g1.gives text t in
                  let v = g2.gives u.others u.left in
                  let w = g3.gives v.others v.left in
                  record {
                    others = w.others;
                    is = ap (letters gc) (u.is ∙ ap (λ (l : List ℕ). u.first ∷ l) (v.is ∙ ap (λ (l : List ℕ). v.first ∷ l) w.is))
                        ∙ ap (λ (n : ℕ). n ∷ letters gc w.others) (rw (← u.set, ← v.set, ← w.set) (sym e));
                    left = w.left;
                  };
            };
          }

-- one codon of the current span
pub next_letter : (gc : Code) {s loc : List ℕ} {L : ℕ} {x y : Reading} {c : ℕ} → Ready (length s) x → Onward x 1 y
    → c ≡ get_or (span_letters gc s x.span.low x.span.high x.span.turned) 0 0 → LetterIs gc s loc L x c y
next_letter gc {s} {loc} {L} {x} {y} {c} r o e =
    let l = span_letters gc s x.span.low x.span.high x.span.turned in
    record {
      one = subst (λ (d : List ℕ). Gives gc s loc L x d y) (take-suc l 0 0 (span_within gc s x.span.low x.span.high x.span.turned 1 (omega (arith, o.size)) r.inside) ∙ ap (λ (a : ℕ). a ∷ []) (sym e)) (run_gives s r o gc);
      falls = omega (arith, run_falls s r o (length loc));
    }

-- ---- the start

module _ {s loc : List ℕ} {L : ℕ} where
  pub skipped_none : {x : Reading} → Ready (length s) x → Skips s loc L x 0 x
  skipped_none r = record { ready = r; keeps = λ text h. h }

  pub skipped_end : {x y : Reading} {k n : ℕ} → k ≤ n → n ≤ k → Skips s loc L x k y → Skips s loc L x n y
  skipped_end {x} {y} {k} {n} a b f = let e : k ≡ n = omega arith in subst (λ (i : ℕ). Skips s loc L x i y) e f

module _ (s loc : List ℕ) (L : ℕ) (r : Started) (st : Starts loc r) where
  begins_at : (t : Location) → Codes s loc L t → TextLeft s loc L (record { walk = r.walk; span = record { low = 0; high = 0; turned = false } }) (coding_text s (paper.spans t))
  begins_at t h =
      record {
        others = paper.spans t;
        left = st.walk L t (record { text = h.read; written = h.written; located = h.located }) h.right;
        is = refl;
      }

  pub begins_none : {n : ℕ} → n ≡ 0 → BeginsText s loc L n (record { walk = r.walk; span = record { low = 0; high = 0; turned = false } })
  begins_none {n} e =
      let z : n - 1 ≡ 0 = omega arith in
      record { ready = record { order = omega arith; inside = omega arith }; leaves = λ t h. rw z (begins_at t h) }

  pub begins_skip : {n : ℕ} {y : Reading} → Skips s loc L (record { walk = r.walk; span = record { low = 0; high = 0; turned = false } }) (n - 1) y → BeginsText s loc L n y
  begins_skip {n} f = record { ready = f.ready; leaves = λ t h. f.keeps (coding_text s (paper.spans t)) (begins_at t h) }

-- ---- whether a letter is left

module _ {s loc : List ℕ} {L : ℕ} {x : Reading} where
  pub no_letter : {gc : Code} → ((text : List ℕ) → TextLeft s loc L x text → letters gc text ≡ []) → Ends gc s loc L x true
  no_letter g = record { says = g }

  pub some_letter : {gc : Code} {c : ℕ} {y : Reading} → LetterIs gc s loc L x c y → Ends gc s loc L x false
  some_letter {gc} {c} g = record { says = λ text h. let u = g.one.gives text h in (c, letters gc u.others, u.is) }
