-- What follows from the check's promise alone: demand 3, and that two allowed answers are equal.
use Prim.Native.Nat.{ℕ, ◌+◌, ◌≤◌}
use native.Mathlib.Omega.{arith}
use mathlib.Core.Path.{◌≡◌, refl, ap, ◌∙◌, subst}
use mathlib.Core.Bool.{Bool, true, false, true≢false}
use mathlib.Core.Logic.{◌↔◌}
use mathlib.Core.List.{List}
use lib.ListN.{length}
use Rattle.paper.specs.Tree.{Listing, Bare, forget}
use Rattle.paper.specs.Layout.{LaidOut, Writes}
use Rattle.paper.specs.Rules.{Broken, Breaks}
use Rattle.std.specs.Prelude.{Ok, Err}
use Rattle.paper.specs.Answers.{limit, Verdict, CheckSays, Checked, refuse, give, Prints}
use Rattle.paper.specs.Answers as paper
use Rattle.paper.specs.Demands.{IsAccepted, Good, Demand3}
use Rattle.paper.specs.declared.Figures.{Figures}
use Rattle.paper.specs.declared.Refused.{Refused}
use Rattle.paper.proofs.Accepted.{listing, accepts}
use Rattle.paper.proofs.Marks.{bare_exactly}
use Rattle.paper.proofs.Once.{check_once, prints_once}
use Rattle.read_layout.proofs.Wholes.{laid_once, writes_once}

-- two allowed answers are equal
pub answers_once : (w : List ℕ) (a b : Verdict) → CheckSays w a → CheckSays w b → a ≡ b
answers_once w = check_once {w = w} laid_once

-- and so are two texts that the program may print
pub print_once : {w x y : List ℕ} → Prints w x → Prints w y → x ≡ y
print_once = prints_once laid_once

-- an accepted listing is laid out, within the limit, and breaks no rule
given : {w : List ℕ} {l : Listing ℕ} → Checked w (give l) → (length w ≤ limit) × LaidOut l w × ((n p : ℕ) → ¬ Broken l n p)
given (paper.accepted short laid clean) = (short, laid, clean)

-- where a good listing is written nothing is refused
not_refused : {w : List ℕ} {n p : ℕ} → Good w → Checked w (refuse n p) → ⊥
not_refused g (paper.too_long h) = omega (arith, h, g.short)
not_refused g (paper.strays h s) = s.stray g.writes.listing g.writes.laid
not_refused {n = n} {p} g (paper.breaks l h laid f) =
    let e : forget l ≡ g.bare = ap (λ (m : Listing ℕ). forget m) (laid_once l g.writes.listing laid g.writes.laid) ∙ g.writes.same in
    g.keeps n (subst (λ (b : Bare). Breaks b n) e ((bare_exactly ◌+◌ l n).0 (p, f.broken)))

-- demand 3: accepted exactly when some bare listing is written by the bytes and breaks none of the rules on values
pub exactly : (w : List ℕ) (r : Verdict) → CheckSays w r → IsAccepted r ↔ Good w
exactly w (Ok a) c =
    let g = given c.1 in (
      λ i. record {
        short = g.0;
        bare = forget c.0;
        writes = record { listing = c.0; laid = g.1; same = refl };
        keeps = λ n b. let x = (bare_exactly ◌+◌ c.0 n).1 b in g.2 n x.0 x.1;
      },
      λ g. record { figures = a; is = refl },
    )
exactly w (Err r) c = (λ i. absurd (refused_not r i), λ g. absurd (not_refused g c))
  where
    refused_not : (r : Refused) → IsAccepted (Err r) → ⊥
    refused_not r i = true≢false (ap is_refused i.is)
      where
        is_refused : Verdict → Bool
        is_refused (Err r) = true
        is_refused (Ok a) = false

-- what the check counts in the listing of paper/proofs/Accepted.antt
abbrev figures : Figures
figures = record { total = 3; skipped = 1; features = 3; judged = 1; unjudged = 0 }

-- someone is accepted, whatever allowed answer is given: that listing
pub someone : (r : Verdict) → CheckSays listing r → r ≡ Ok figures
someone r c = answers_once listing r (Ok figures) c accepts

-- and it is good by demand 3's own words
pub someone_good : Good listing
someone_good = (exactly listing (Ok figures) accepts).0 (record { figures = figures; is = refl })

-- ".. and then no other is": any two that are written by the bytes are one
pub no_other : (w : List ℕ) (a b : Bare) → Writes a w → Writes b w → a ≡ b
no_other w a b x y = writes_once a b x y

pub demand3 : Demand3
demand3 = record { exactly = exactly; no_other = no_other; someone = (listing, someone_good) }
