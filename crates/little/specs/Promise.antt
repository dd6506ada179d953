-- What it means that a promise has one answer, and what a Boolean answer says.
use Rattle.std.specs.Prelude.{◌≡◌, Bool, true, false}

-- no two answers satisfy P
abbrev pub Only : {A : Type 0} → (A → Type 0) → Type 0
Only {A} P = (x y : A) → P x → P y → x ≡ y

-- the answer of whether P holds
abbrev pub Says : Bool → Type 0 → Type 0
Says true P = P
Says false P = ¬ P
