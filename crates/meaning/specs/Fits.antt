-- When an object fits a schema object (01, "The four rules").
use Rattle.std.specs.Prelude.{◌≡◌, false, ℕ, ◌/◌, ◌%◌, ◌^◌, length}
use Rattle.meaning.specs.Places.{Every, Some}
use Rattle.meaning.specs.Model.{Value, kind, Object, Shape, Listed, property_at, listed_at}

-- "bit k is label k"
abbrev pub HasLabel : ℕ → ℕ → Type 0
HasLabel l k = l / 2 ^ k % 2 ≡ 1

-- "the label sets are equal": to contain the labels is not enough
unfoldable pub SameLabels : Object → Shape → Type 0
SameLabels o s = o.labels ≡ s.labels

-- a value has the type of its own number
unfoldable pub HasType : Value → ℕ → Type 0
HasType v t = kind v ≡ t

-- "flag (8): 0 mandatory, 1 optional"
abbrev pub Mandatory : Listed → Type 0
Mandatory l = l.optional ≡ false

-- the name is present in the object
abbrev pub HasName : Object → ℕ → Type 0
HasName o n = Some (length o.properties) (λ i. (property_at o i).name ≡ n)

-- the name is listed by the schema object
abbrev pub ListsName : Shape → ℕ → Type 0
ListsName s n = Some (length s.listed) (λ j. (listed_at s j).name ≡ n)

module _ (o : Object) (s : Shape) where
  -- "(b) every mandatory name is present"
  abbrev pub PresentAt : ℕ → Type 0
  PresentAt j = Mandatory (listed_at s j) → HasName o (listed_at s j).name

  abbrev pub AllPresent : Type 0
  AllPresent = Every (length s.listed) PresentAt

  -- "(c) every present name is listed, unless the type is open"
  abbrev pub ListedAt : ℕ → Type 0
  ListedAt i = s.open? ≡ false → ListsName s (property_at o i).name

  abbrev pub AllListed : Type 0
  AllListed = Every (length o.properties) ListedAt

  -- "(d) every present listed name has the listed type"
  abbrev pub TypedAt : ℕ → Type 0
  TypedAt i = Every (length s.listed) (λ j. (property_at o i).name ≡ (listed_at s j).name → HasType (property_at o i).value (listed_at s j).type)

  abbrev pub AllTyped : Type 0
  AllTyped = Every (length o.properties) TypedAt

  -- "the record fits"
  pub record RecordFits : Type 0 where
    pub present : AllPresent
    pub listed : AllListed
    pub typed : AllTyped

  -- "An object fits a schema object if the label sets are equal and the record fits: .."
  pub record Fits : Type 0 where
    pub labels : SameLabels o s
    pub properties : RecordFits
