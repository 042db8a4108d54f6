-- Forms: that there is a text of one at each place. They compute, so that such a text can be looked at.
use Prim.Native.Nat.{ℕ, ◌+◌}
use Prim.Native.Char.{code}
use mathlib.Core.Path.{refl}
use mathlib.Core.Bool.{Bool}
use mathlib.Core.Option.{none}
use mathlib.Core.List.{List, [], ◌++◌}
use lib.ListN.{length}
use Rattle.paper.specs.Bytes.{bytes, is_blank}
use Rattle.paper.specs.Form.{Form, these, ◌·◌, run, maybe, each}
use Rattle.paper.specs.Layout.{gap, close}

abbrev pub Ever : Form → Type 0
Ever F = (at : ℕ) → (w : List ℕ) × F at w

abbrev pub ev_seq : (F G : Form) → Ever F → Ever G → Ever (F · G)
ev_seq F G h k at = let a = h at in let b = k (at + length a.0) in (a.0 ++ b.0, (a.0, b.0, refl, a.1, b.1))

abbrev pub ev_these : (x : List ℕ) → Ever (these x)
ev_these x at = (x, refl)

abbrev pub ev_run : (f : ℕ → Bool) → Ever (run f)
ev_run f at = ([], tt)

abbrev pub ev_gap : Ever gap
ev_gap at = (bytes " ", (bytes " ", [], refl, (code " ", refl, refl), tt))

abbrev pub ev_close : (name : List ℕ) → Ever (close name)
ev_close name = ev_seq _ _ (ev_seq _ _ (ev_these (bytes "</" ++ name)) (ev_run is_blank)) (ev_these (bytes ">"))

-- the same where the texts have values
abbrev pub Evers : {A : Type 0} → (A → Form) → Type 0
Evers {A} L = (at : ℕ) → (a : A) × (w : List ℕ) × L a at w

abbrev pub evs_then : {A : Type 0} (L : A → Form) (P : Form) → Evers L → Ever P → Evers (λ (a : A). L a · P)
evs_then L P h k at =
    let a = h at in
    let b = k (at + length a.1) in
    (a.0, a.1 ++ b.0, (a.1, b.0, refl, a.2, b.1))

abbrev pub evs_after : {A : Type 0} (P : Form) (L : A → Form) → Ever P → Evers L → Evers (λ (a : A). P · L a)
evs_after P L h k at =
    let a = h at in
    let b = k (at + length a.0) in
    (b.0, a.0 ++ b.1, (a.0, b.1, refl, a.1, b.2))

abbrev pub evs_both : {A B : Type 0} (L : A → Form) (M : B → Form) → Evers L → Evers M → Evers (λ (p : A × B). L p.0 · M p.1)
evs_both L M h k at =
    let a = h at in
    let b = k (at + length a.1) in
    ((a.0, b.0), a.1 ++ b.1, (a.1, b.1, refl, a.2, b.2))

abbrev pub evs_maybe : {A : Type 0} (L : A → Form) → Evers (maybe L)
evs_maybe L at = (none, [], refl)

abbrev pub evs_each : {A : Type 0} (L : A → Form) → Evers (each L)
evs_each L at = ([], [], refl)
