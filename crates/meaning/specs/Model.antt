-- Graphs and schemas as values: what two accepted files say, without their layout (01, "The two files").
use Rattle.std.specs.Prelude.{Bool, false, List, [], ℕ, ℤ, Float, get_or}

-- "A property value is one of five kinds, and a Real carries its float." A date is its number, a text its bytes.
pub data Value : Type 0 where
  boolean : Bool → Value
  integer : ℤ → Value
  real : Float → Value
  date : ℕ → Value
  text : List ℕ → Value

-- "1 Boolean .. 2 Integer .. 3 Real .. 4 Date .. 5 Text .."
abbrev pub kind : Value → ℕ
kind (boolean b) = 1
kind (integer z) = 2
kind (real x) = 3
kind (date n) = 4
kind (text bs) = 5

-- "Labels and property names are numbers from the bench register; their spelling stands in no file."
pub record Property : Type 0 where
  pub name : ℕ
  pub value : Value

-- What a node and an edge share: a "label set (64 bits, bit k is label k)" and the property rows of its run, in their order.
pub record Object : Type 0 where
  pub labels : ℕ
  pub properties : List Property

pub record Node : Type 0 where
  pub object : Object

-- "source node (32), target node (32)": their places among the nodes
pub record Edge : Type 0 where
  pub object : Object
  pub source : ℕ
  pub target : ℕ

pub record Graph : Type 0 where
  pub nodes : List Node
  pub edges : List Edge

-- A schema property row: "name (16), type (8), flag (8): 0 mandatory, 1 optional". "Schema types are the same five numbers."
pub record Listed : Type 0 where
  pub name : ℕ
  pub type : ℕ
  pub optional : Bool

-- What a schema node and a schema edge share: a label set, the listed properties, and whether the type is open.
pub record Shape : Type 0 where
  pub labels : ℕ
  pub listed : List Listed
  pub open? : Bool

-- A maximum is a number, or "any".
pub data Maximum : Type 0 where
  up_to : ℕ → Maximum
  any : Maximum

pub record Interval : Type 0 where
  pub minimum : ℕ
  pub maximum : Maximum

pub record SchemaNode : Type 0 where
  pub shape : Shape

-- "source schema node (32), target schema node (32)": their places among the schema nodes. `sources` is the source interval, `targets` the target interval.
pub record SchemaEdge : Type 0 where
  pub shape : Shape
  pub source : ℕ
  pub target : ℕ
  pub sources : Interval
  pub targets : Interval

pub record Schema : Type 0 where
  pub nodes : List SchemaNode
  pub edges : List SchemaEdge

-- ---- What stands at a place. Past the end stands a value that no rule reads: places are below the counts in accepted files.

abbrev pub no_object : Object
no_object = record { labels = 0; properties = [] }

abbrev pub no_shape : Shape
no_shape = record { labels = 0; listed = []; open? = false }

-- "0 to any"
abbrev pub any_number : Interval
any_number = record { minimum = 0; maximum = any }

abbrev pub no_property : Property
no_property = record { name = 0; value = boolean false }

abbrev pub no_listed : Listed
no_listed = record { name = 0; type = 0; optional = false }

abbrev pub no_node : Node
no_node = record { object = no_object }

abbrev pub no_edge : Edge
no_edge = record { object = no_object; source = 0; target = 0 }

abbrev pub no_schema_node : SchemaNode
no_schema_node = record { shape = no_shape }

abbrev pub no_schema_edge : SchemaEdge
no_schema_edge = record { shape = no_shape; source = 0; target = 0; sources = any_number; targets = any_number }

abbrev pub property_at : Object → ℕ → Property
property_at o i = get_or o.properties i no_property

abbrev pub listed_at : Shape → ℕ → Listed
listed_at s j = get_or s.listed j no_listed

abbrev pub node_in : List Node → ℕ → Node
node_in ns i = get_or ns i no_node

abbrev pub edge_at : Graph → ℕ → Edge
edge_at G e = get_or G.edges e no_edge

abbrev pub schema_node_in : List SchemaNode → ℕ → SchemaNode
schema_node_in ts j = get_or ts j no_schema_node

abbrev pub schema_edge_at : Schema → ℕ → SchemaEdge
schema_edge_at S s = get_or S.edges s no_schema_edge
