-- What a property row's kind, length and value say (01, "A property value is one of five kinds").
use Rattle.std.specs.Prelude.{cond, List, ℕ, zero, suc, ◌+◌, ◌-◌, ◌^◌, ◌≤◌, ltb, eqb, ℤ, pos, negsuc, Float}
use Rattle.std.specs.Float.{nan, inf, fin, binary64}
use Rattle.std.specs.Float.Ieee.{of_bits}
use Rattle.meaning.specs.Model as meaning
use Rattle.layout.specs.declared.Value.{Value}
use Rattle.layout.specs.declared.Value.TheVariants.{Boolean, Integer, Real, Date, Text}
use Rattle.layout.specs.Tables.{between}
use Rattle.layout.specs.Date.{IsDate}

-- "64-bit two's complement": b as it stands below 2 ^ 63, else b - 2 ^ 64, and negsuc m is -1 - m
unfoldable pub signed : ℕ → ℤ
signed b = cond (ltb b (2 ^ 63)) (pos b) (negsuc (2 ^ 64 - 1 - b))

-- "neither infinite nor NaN"
abbrev pub Finite : Float → Type 0
Finite nan = ⊥
Finite (inf s) = ⊥
Finite (fin s m e) = Unit {0}

-- Kind, length, value bits and the value that they say, where there are T text bytes. "Kinds 1 to 4 have length 0."
pub data Valued (T : ℕ) : ℕ → ℕ → ℕ → Value → Type 0 where
  -- "1 Boolean (value 0 or 1)"
  is_boolean : {b : ℕ} → b ≤ 1 → Valued T 1 0 b (Boolean (eqb b 1))
  -- "2 Integer (64-bit two's complement)"
  is_integer : {b : ℕ} → Valued T 2 0 b (Integer (signed b))
  -- "3 Real (bits of an f64 that is neither infinite nor NaN; negative zero is allowed)"
  is_real : {b : ℕ} → Finite (of_bits binary64 b) → Valued T 3 0 b (Real (of_bits binary64 b))
  -- "4 Date (year x 10,000 + month x 100 + day, ..)"
  is_date : {b : ℕ} → IsDate b → Valued T 4 0 b (Date b)
  -- "5 Text (value is the offset in the text bytes, length the number of bytes; any bytes; parts may overlap; length 0 is allowed with an offset up to T)"
  is_text : {n b : ℕ} → b + n ≤ T → Valued T 5 n b (Text (record { at = b; len = n }))

-- a row's kind, length and value bits say some value
abbrev pub HasValue : ℕ → ℕ → ℕ → ℕ → Type 0
HasValue T k n b = (v : Value) × Valued T k n b v

-- That value as a function of the row, for the graph below. A row that says none has none to be right or wrong about.
abbrev pub value_of : ℕ → ℕ → ℕ → Value
value_of zero n b = Boolean (eqb b 1)
value_of (suc zero) n b = Boolean (eqb b 1)
value_of (suc (suc zero)) n b = Integer (signed b)
value_of (suc (suc (suc zero))) n b = Real (of_bits binary64 b)
value_of (suc (suc (suc (suc zero)))) n b = Date b
value_of (suc (suc (suc (suc (suc k))))) n b = Text (record { at = b; len = n })

-- what a value means: a text is its bytes
abbrev pub meant : List ℕ → Value → meaning.Value
meant t (Boolean x) = meaning.boolean x
meant t (Integer z) = meaning.integer z
meant t (Real x) = meaning.real x
meant t (Date d) = meaning.date d
meant t (Text p) = meaning.text (between t p.at (p.at + p.len))
