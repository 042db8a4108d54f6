-- The walk as a whole: whichever allowed steps are taken, the spans given until it is done are those of the location, in reading order.
use Prim.Native.Nat.{ℕ}
use mathlib.Core.Path.{◌≡◌, sym, ap, ◌∙◌}
use mathlib.Core.Bool.{false}
use mathlib.Core.List.{List, [], ◌∷◌}
use Rattle.std.specs.Prelude.{None, Some}
use Rattle.paper.specs.Locations.{Location, breaks25, spans}
use Rattle.paper.specs.Locations as paper
use Rattle.location_judge.specs.Judging.{Spells}
use Rattle.location_spans.specs.Walking.{Left, Starts, Steps, span_is}
use Rattle.location_spans.specs.declared.walking.Walk.{Walk}
use Rattle.location_spans.specs.declared.walking.Started.{Started}
use Rattle.location_spans.specs.declared.walking.NextSpan.{NextSpan}

-- these spans are given from a walk on, step after step, until it is done
pub data Given (s : List ℕ) (L : ℕ) : Walk → List paper.Span → Type 0 where
  done : {w : Walk} → Steps s L w None → Given s L w []
  more : {w : Walk} {x : NextSpan} {l : List paper.Span} → Steps s L w (Some x) → Given s L x.left l → Given s L w (span_is x.span ∷ l)

given_left : {s : List ℕ} {L : ℕ} {w : Walk} {k : List paper.Span} → Given s L w k → (l : List paper.Span) → Left s L w l → k ≡ l
given_left (done h) l x = sym (h.yields l x)
given_left (more {x = a} h g) l x =
    let y = h.yields l x in
    ap (λ (r : List paper.Span). span_is a.span ∷ r) (given_left g y.0 y.2) ∙ sym y.1

module _ {s : List ℕ} {L : ℕ} {t : Location} (x : Spells s t) (right : breaks25 L t ≡ false) where
  pub given_spans : {r : Started} {k : List paper.Span} → Starts s r → Given s L r.walk k → k ≡ spans t
  given_spans st g = given_left g (spans t) (st.walk L t x right)

  -- two allowed ways to take them give the same
  pub given_once : {r q : Started} {k l : List paper.Span} → Starts s r → Starts s q → Given s L r.walk k → Given s L q.walk l → k ≡ l
  given_once st su g h = given_spans st g ∙ sym (given_spans su h)
