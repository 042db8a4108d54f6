-- How short a text of a form can be.
use Prim.Native.Nat.{ℕ, ◌+◌, ◌≤◌}
use native.Mathlib.Omega.{arith}
use mathlib.Core.Path.{ap}
use mathlib.Core.List.{List}
use lib.ListN.{length, length-append}
use Rattle.paper.specs.Form.{Form, these, ◌·◌}

-- whatever is of the form F has n bytes or more
pub record AtLeast (F : Form) (n : ℕ) : Type 0 where
  pub has : (at : ℕ) (w : List ℕ) → F at w → n ≤ length w

pub any : (F : Form) → AtLeast F 0
any F = record { has = λ at w x. omega arith }

pub enough : {F : Form} {n : ℕ} → AtLeast F n → {m : ℕ} → m ≤ n → AtLeast F m
enough f h = record { has = λ at w x. omega (arith, h, f.has at w x) }

pub word : (x : List ℕ) → AtLeast (these x) (length x)
word x = record { has = λ at w e. omega (arith, ap length e) }

pub both : (F G : Form) {m n : ℕ} → AtLeast F m → AtLeast G n → AtLeast (F · G) (m + n)
both F G f g =
    record {
      has = λ at w x.
          omega
          (arith, ap length x.2, length-append x.0 x.1, f.has at x.0 x.3, g.has (at + length x.0) x.1 x.4);
    }

infixl 60 ◌⊗◌
abbrev pub ◌⊗◌ : {F G : Form} {m n : ℕ} → AtLeast F m → AtLeast G n → AtLeast (F · G) (m + n)
◌⊗◌ {F} {G} f g = both F G f g
