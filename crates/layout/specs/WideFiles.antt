-- Examples, and no promise: the bytes of two more files, and what they say. In the bench's files many fields are 0 or below 256 everywhere, so that they cannot
-- tell how wide a field is, count from open in a schema edge, or where an edge's run starts. These two say labels up to 63, numbers of more than one byte,
-- edges with properties, an open schema edge and values of all five kinds; and where a larger number is refused, so are they with 1 in a field's highest byte.
-- `examples/make.py` packs them by 01's lists of fields: the file that each definition names has them, and `.ci/docs.py` compares.
use Rattle.std.specs.Prelude.{◌≡◌, true, false, List, [], ◌∷◌, ◌++◌, ℕ, ◌+◌, ◌^◌, set, replicate, pos, negsuc}
use Rattle.std.specs.Float.{fin}
use Rattle.meaning.specs.Model as model
use Rattle.meaning.specs.Model.{boolean, integer, real, date, text, Node, Edge, Listed, Shape, any}
use Rattle.meaning.specs.Bench.{property, node_of, edge_of, graph, mandatory, optional, schema_node, schema_edge, from_to}
use Rattle.layout.specs.declared.File.{File}
use Rattle.layout.specs.declared.File.TheVariants.{Graph, Schema}
use Rattle.layout.specs.Files.{ceilings}
use Rattle.layout.specs.Refusals.{FileRefused, FileAccepted}
use Rattle.layout.specs.Checked.{graph_in, schema_in}

-- ---- the bytes

-- examples/layout/wide.schema
abbrev pub wide_schema : List ℕ
wide_schema =
    -- schema node rows: label set (64), first schema property (32), count (16), open (16)
    -- node 0: labels 0, 9, 33 and 63, first 0, count 3, open 1
    (0x01 ∷ 0x02 ∷ 0x00 ∷ 0x00 ∷ 0x02 ∷ 0x00 ∷ 0x00 ∷ 0x80 ∷ 0x00 ∷ 0x00 ∷ 0x00 ∷ 0x00 ∷ 0x03 ∷ 0x00 ∷ 0x01 ∷ 0x00 ∷ [])
    -- node 1: label 62, first 3, count 2, open 0
    ++ (0x00 ∷ 0x00 ∷ 0x00 ∷ 0x00 ∷ 0x00 ∷ 0x00 ∷ 0x00 ∷ 0x40 ∷ 0x03 ∷ 0x00 ∷ 0x00 ∷ 0x00 ∷ 0x02 ∷ 0x00 ∷ 0x00 ∷ 0x00 ∷ [])
    -- schema edge rows: label set (64), source schema node (32), target schema node (32), first schema property (32), count (16), open (16),
    -- then source minimum, source maximum, target minimum, target maximum (32 each)
    -- edge 0: labels 8 and 40, 1 to 0, first 5, count 2, open 1; source 258 to 772, target 1,286 to 1,800
    ++ (0x00 ∷ 0x01 ∷ 0x00 ∷ 0x00 ∷ 0x00 ∷ 0x01 ∷ 0x00 ∷ 0x00 ∷ 0x01 ∷ 0x00 ∷ 0x00 ∷ 0x00 ∷ 0x00 ∷ 0x00 ∷ 0x00 ∷ 0x00 ∷ 0x05 ∷ 0x00 ∷ 0x00 ∷ 0x00 ∷ 0x02 ∷ 0x00 ∷ 0x01 ∷ 0x00 ∷ [])
    ++ (0x02 ∷ 0x01 ∷ 0x00 ∷ 0x00 ∷ 0x04 ∷ 0x03 ∷ 0x00 ∷ 0x00 ∷ 0x06 ∷ 0x05 ∷ 0x00 ∷ 0x00 ∷ 0x08 ∷ 0x07 ∷ 0x00 ∷ 0x00 ∷ [])
    -- edge 1: label 9, 0 to 1, first 7, count 1, open 0; source 3 to any, target 65,534 to 65,535
    ++ (0x00 ∷ 0x02 ∷ 0x00 ∷ 0x00 ∷ 0x00 ∷ 0x00 ∷ 0x00 ∷ 0x00 ∷ 0x00 ∷ 0x00 ∷ 0x00 ∷ 0x00 ∷ 0x01 ∷ 0x00 ∷ 0x00 ∷ 0x00 ∷ 0x07 ∷ 0x00 ∷ 0x00 ∷ 0x00 ∷ 0x01 ∷ 0x00 ∷ 0x00 ∷ 0x00 ∷ [])
    ++ (0x03 ∷ 0x00 ∷ 0x00 ∷ 0x00 ∷ 0xFF ∷ 0xFF ∷ 0xFF ∷ 0xFF ∷ 0xFE ∷ 0xFF ∷ 0x00 ∷ 0x00 ∷ 0xFF ∷ 0xFF ∷ 0x00 ∷ 0x00 ∷ [])
    -- schema property rows: name (16), type (8), flag (8)
    -- node 0's: 0 Boolean, mandatory; 1 Integer, optional; 2 Real, mandatory. Node 1's: 4 Text, optional; 255 Text, mandatory
    ++ (0x00 ∷ 0x00 ∷ 0x01 ∷ 0x00 ∷ [])
    ++ (0x01 ∷ 0x00 ∷ 0x02 ∷ 0x01 ∷ [])
    ++ (0x02 ∷ 0x00 ∷ 0x03 ∷ 0x00 ∷ [])
    ++ (0x04 ∷ 0x00 ∷ 0x05 ∷ 0x01 ∷ [])
    ++ (0xFF ∷ 0x00 ∷ 0x05 ∷ 0x00 ∷ [])
    -- edge 0's: 3 Date, mandatory; 5 Boolean, optional. Edge 1's: 1 Integer, mandatory
    ++ (0x03 ∷ 0x00 ∷ 0x04 ∷ 0x00 ∷ [])
    ++ (0x05 ∷ 0x00 ∷ 0x01 ∷ 0x01 ∷ [])
    ++ (0x01 ∷ 0x00 ∷ 0x02 ∷ 0x00 ∷ [])
    -- trailer: schema nodes 2 (16), schema edges 2 (16), schema properties 8 (32), label count 64 (16), name count 256 (16), back 144 (32), the mark
    ++ (0x02 ∷ 0x00 ∷ 0x02 ∷ 0x00 ∷ 0x08 ∷ 0x00 ∷ 0x00 ∷ 0x00 ∷ 0x40 ∷ 0x00 ∷ 0x00 ∷ 0x01 ∷ 0x90 ∷ 0x00 ∷ 0x00 ∷ 0x00 ∷ 0x53 ∷ 0x43 ∷ 0x48 ∷ 0x31 ∷ [])

-- examples/layout/wide.graph
abbrev pub wide_graph : List ℕ
wide_graph =
    -- node rows: label set (64), first property row (32), property count (32)
    -- node 0: labels 0, 9, 33 and 63, first 0, count 3
    (0x01 ∷ 0x02 ∷ 0x00 ∷ 0x00 ∷ 0x02 ∷ 0x00 ∷ 0x00 ∷ 0x80 ∷ 0x00 ∷ 0x00 ∷ 0x00 ∷ 0x00 ∷ 0x03 ∷ 0x00 ∷ 0x00 ∷ 0x00 ∷ [])
    -- node 1: label 62, first 3, count 2
    ++ (0x00 ∷ 0x00 ∷ 0x00 ∷ 0x00 ∷ 0x00 ∷ 0x00 ∷ 0x00 ∷ 0x40 ∷ 0x03 ∷ 0x00 ∷ 0x00 ∷ 0x00 ∷ 0x02 ∷ 0x00 ∷ 0x00 ∷ 0x00 ∷ [])
    -- edge rows: label set (64), source node (32), target node (32), first property row (32), property count (32)
    -- edge 0: labels 8 and 40, 1 to 0, first 5, count 2
    ++ (0x00 ∷ 0x01 ∷ 0x00 ∷ 0x00 ∷ 0x00 ∷ 0x01 ∷ 0x00 ∷ 0x00 ∷ 0x01 ∷ 0x00 ∷ 0x00 ∷ 0x00 ∷ 0x00 ∷ 0x00 ∷ 0x00 ∷ 0x00 ∷ 0x05 ∷ 0x00 ∷ 0x00 ∷ 0x00 ∷ 0x02 ∷ 0x00 ∷ 0x00 ∷ 0x00 ∷ [])
    -- edge 1: label 9, 0 to 1, first 7, count 1
    ++ (0x00 ∷ 0x02 ∷ 0x00 ∷ 0x00 ∷ 0x00 ∷ 0x00 ∷ 0x00 ∷ 0x00 ∷ 0x00 ∷ 0x00 ∷ 0x00 ∷ 0x00 ∷ 0x01 ∷ 0x00 ∷ 0x00 ∷ 0x00 ∷ 0x07 ∷ 0x00 ∷ 0x00 ∷ 0x00 ∷ 0x01 ∷ 0x00 ∷ 0x00 ∷ 0x00 ∷ [])
    -- property rows: name (16), kind (8), zero (8), length (32), value (64)
    -- node 0's: 0, a Boolean: 1
    ++ (0x00 ∷ 0x00 ∷ 0x01 ∷ 0x00 ∷ 0x00 ∷ 0x00 ∷ 0x00 ∷ 0x00 ∷ 0x01 ∷ 0x00 ∷ 0x00 ∷ 0x00 ∷ 0x00 ∷ 0x00 ∷ 0x00 ∷ 0x00 ∷ [])
    -- 1, an Integer: 2 ^ 64 - 2
    ++ (0x01 ∷ 0x00 ∷ 0x02 ∷ 0x00 ∷ 0x00 ∷ 0x00 ∷ 0x00 ∷ 0x00 ∷ 0xFE ∷ 0xFF ∷ 0xFF ∷ 0xFF ∷ 0xFF ∷ 0xFF ∷ 0xFF ∷ 0xFF ∷ [])
    -- 2, a Real: the bits of -0.75
    ++ (0x02 ∷ 0x00 ∷ 0x03 ∷ 0x00 ∷ 0x00 ∷ 0x00 ∷ 0x00 ∷ 0x00 ∷ 0x00 ∷ 0x00 ∷ 0x00 ∷ 0x00 ∷ 0x00 ∷ 0x00 ∷ 0xE8 ∷ 0xBF ∷ [])
    -- node 1's: 4, a Text: the 258 bytes from 0 on
    ++ (0x04 ∷ 0x00 ∷ 0x05 ∷ 0x00 ∷ 0x02 ∷ 0x01 ∷ 0x00 ∷ 0x00 ∷ 0x00 ∷ 0x00 ∷ 0x00 ∷ 0x00 ∷ 0x00 ∷ 0x00 ∷ 0x00 ∷ 0x00 ∷ [])
    -- 255, a Text: the 3 bytes from 258 on
    ++ (0xFF ∷ 0x00 ∷ 0x05 ∷ 0x00 ∷ 0x03 ∷ 0x00 ∷ 0x00 ∷ 0x00 ∷ 0x02 ∷ 0x01 ∷ 0x00 ∷ 0x00 ∷ 0x00 ∷ 0x00 ∷ 0x00 ∷ 0x00 ∷ [])
    -- edge 0's: 3, a Date: 20240229
    ++ (0x03 ∷ 0x00 ∷ 0x04 ∷ 0x00 ∷ 0x00 ∷ 0x00 ∷ 0x00 ∷ 0x00 ∷ 0x65 ∷ 0xD7 ∷ 0x34 ∷ 0x01 ∷ 0x00 ∷ 0x00 ∷ 0x00 ∷ 0x00 ∷ [])
    -- 5, a Boolean: 0
    ++ (0x05 ∷ 0x00 ∷ 0x01 ∷ 0x00 ∷ 0x00 ∷ 0x00 ∷ 0x00 ∷ 0x00 ∷ 0x00 ∷ 0x00 ∷ 0x00 ∷ 0x00 ∷ 0x00 ∷ 0x00 ∷ 0x00 ∷ 0x00 ∷ [])
    -- edge 1's: 1, an Integer: 8 + 7 x 256 + 6 x 256 ^ 2 and so on
    ++ (0x01 ∷ 0x00 ∷ 0x02 ∷ 0x00 ∷ 0x00 ∷ 0x00 ∷ 0x00 ∷ 0x00 ∷ 0x08 ∷ 0x07 ∷ 0x06 ∷ 0x05 ∷ 0x04 ∷ 0x03 ∷ 0x02 ∷ 0x01 ∷ [])
    -- text bytes: 258 full stops, then ABC
    ++ replicate 258 0x2E
    ++ (0x41 ∷ 0x42 ∷ 0x43 ∷ [])
    -- trailer: nodes 2, edges 2, property rows 8, text bytes 261 (32 each),
    -- then label count 64 (16), name count 256 (16), back 469 (32), the mark
    ++ (0x02 ∷ 0x00 ∷ 0x00 ∷ 0x00 ∷ 0x02 ∷ 0x00 ∷ 0x00 ∷ 0x00 ∷ 0x08 ∷ 0x00 ∷ 0x00 ∷ 0x00 ∷ 0x05 ∷ 0x01 ∷ 0x00 ∷ 0x00 ∷ [])
    ++ (0x40 ∷ 0x00 ∷ 0x00 ∷ 0x01 ∷ 0xD5 ∷ 0x01 ∷ 0x00 ∷ 0x00 ∷ 0x47 ∷ 0x50 ∷ 0x48 ∷ 0x31 ∷ [])

-- ---- what they say

-- labels 0, 9, 33 and 63; labels 8 and 40
abbrev pub four_labels : ℕ
four_labels = 1 + 2 ^ 9 + 2 ^ 33 + 2 ^ 63

abbrev pub two_labels : ℕ
two_labels = 2 ^ 8 + 2 ^ 40

-- -2 is -1 - 1, and -0.75 is -3 over 2 ^ 2
abbrev pub wide_nodes : List Node
wide_nodes =
    node_of four_labels (property 0 (boolean true) ∷ property 1 (integer (negsuc 1)) ∷ property 2 (real (fin true 3 (negsuc 1))) ∷ [])
    ∷ node_of (2 ^ 62) (property 4 (text (replicate 258 0x2E)) ∷ property 255 (text (0x41 ∷ 0x42 ∷ 0x43 ∷ [])) ∷ [])
    ∷ []

abbrev pub wide_edges : List Edge
wide_edges =
    edge_of two_labels (property 3 (date 20240229) ∷ property 5 (boolean false) ∷ []) 1 0
    ∷ edge_of (2 ^ 9) (property 1 (integer (pos 0x0102030405060708)) ∷ []) 0 1
    ∷ []

abbrev pub open_shape : ℕ → List Listed → Shape
open_shape l ps = record { labels = l; listed = ps; open? = true }

abbrev pub wide_types : model.Schema
wide_types =
    record {
      nodes =
          record { shape = open_shape four_labels (mandatory 0 1 ∷ optional 1 2 ∷ mandatory 2 3 ∷ []) }
          ∷ schema_node (2 ^ 62) (optional 4 5 ∷ mandatory 255 5 ∷ []) ∷ [];
      edges =
          record { shape = open_shape two_labels (mandatory 3 4 ∷ optional 5 1 ∷ []); source = 1; target = 0; sources = from_to 258 772; targets = from_to 1286 1800 }
          ∷ schema_edge (2 ^ 9) (mandatory 1 2 ∷ []) 0 1 (record { minimum = 3; maximum = any }) (from_to 65534 65535) ∷ [];
    }

-- ---- how wide the fields are

-- a byte of a file, and the code and place that the file is refused with if 1 stands there
pub record Spoilt : Type 0 where
  pub byte : ℕ
  pub code : ℕ
  pub place : ℕ

abbrev pub spoilt : ℕ → ℕ → ℕ → Spoilt
spoilt b c k = record { byte = b; code = c; place = k }

abbrev pub EachRefused : File → List ℕ → List Spoilt → Type 0
EachRefused F f [] = Unit {0}
EachRefused F f (r ∷ rs) = FileRefused F (ceilings F) (set f r.byte 1) r.code r.place × EachRefused F f rs

-- The highest byte of a field: were the field narrower, the file would be accepted. A label set may have any bit here, and the name count is 256: what the file
-- says tells how wide these are.
abbrev pub schema_spoilt : List Spoilt
schema_spoilt =
    -- of schema node 0: first schema property, count, open
    spoilt 11 13 0
    ∷ spoilt 13 13 0
    ∷ spoilt 15 13 0
    -- of schema edge 1: source, target, first schema property, count, open
    ∷ spoilt 83 14 1
    ∷ spoilt 87 14 1
    ∷ spoilt 91 14 1
    ∷ spoilt 93 14 1
    ∷ spoilt 95 14 1
    -- of schema edge 0: source minimum, source maximum, target minimum, target maximum
    ∷ spoilt 59 14 0
    ∷ spoilt 63 14 0
    ∷ spoilt 67 14 0
    ∷ spoilt 71 14 0
    -- of schema property row 4: name
    ∷ spoilt 129 15 4
    -- of the trailer: schema nodes, schema edges, schema properties, label count, back
    ∷ spoilt 145 11 0
    ∷ spoilt 147 11 0
    ∷ spoilt 151 11 0
    ∷ spoilt 153 11 0
    ∷ spoilt 159 12 0 ∷ []

-- likewise
abbrev pub graph_spoilt : List Spoilt
graph_spoilt =
    -- of node 1: first property row, property count
    spoilt 27 6 1
    ∷ spoilt 31 6 1
    -- of edge 1: source, target, first property row, property count
    ∷ spoilt 67 7 1
    ∷ spoilt 71 7 1
    ∷ spoilt 75 7 1
    ∷ spoilt 79 7 1
    -- of property row 4: name; the last two of its length
    ∷ spoilt 145 8 4
    ∷ spoilt 150 8 4
    ∷ spoilt 151 8 4
    -- of property row 0: zero, and its Boolean's value
    ∷ spoilt 83 8 0
    ∷ spoilt 95 8 0
    -- of the trailer: nodes, edges, property rows, text bytes, label count, back
    ∷ spoilt 472 4 0
    ∷ spoilt 476 4 0
    ∷ spoilt 480 4 0
    ∷ spoilt 484 4 0
    ∷ spoilt 486 4 0
    ∷ spoilt 492 5 0 ∷ []

pub record WideFiles : Type 0 where
  pub schema_accepted : FileAccepted Schema (ceilings Schema) wide_schema
  pub schema_says : schema_in wide_schema ≡ wide_types
  pub graph_accepted : FileAccepted Graph (ceilings Graph) wide_graph
  pub graph_says : graph_in wide_graph ≡ graph wide_nodes wide_edges
  pub schema_refused : EachRefused Schema wide_schema schema_spoilt
  pub graph_refused : EachRefused Graph wide_graph graph_spoilt
