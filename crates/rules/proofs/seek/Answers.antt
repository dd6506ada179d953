-- `seek`: the rule at which the search stands is tried, and the search goes on with what it keeps.
use native.Mathlib.Omega.{arith}
use Rattle.rules.proofs.Standing.{moved, nodes_tried, edges_tried, numbers_tried}
use Rattle.rules.proofs.seek.Goals as goal

pub returns-in-1 : goal.returns-in-1
returns-in-1 c =
    let e = c.seek_node.ensures in
    record { sought = e.sought; stands = nodes_tried c.requires.0 (moved e.sought) c.in-1.is e.stands_nodes e.known_of_nodes }

pub seek_edge-requires : goal.seek_edge-requires
seek_edge-requires c = let here = c.in-2.is in (c.requires.0.nodes.behind (omega arith), here, c.requires.0.edges)

pub returns-in-2 : goal.returns-in-2
returns-in-2 c =
    let e = c.seek_edge.ensures in
    record { sought = e.sought; stands = edges_tried c.requires.0 (moved e.sought) c.in-2.is e.stands_edges e.known_of_edges }

pub seek_number-requires : goal.seek_number-requires
seek_number-requires c =
    let x = c.requires.0 in
    let h = c.in-3.is in
    record { kept = (record { masked = x.nodes.behind (omega arith); places = x.edges.behind (omega arith) }, omega arith, c.requires.1); stands_numbers = x.numbers }

pub returns-in-3 : goal.returns-in-3
returns-in-3 c =
    let e = c.seek_number.ensures in
    let h = c.in-3.is in
    record { sought = e.sought.0; stands = numbers_tried c.requires.0 (moved e.sought.0) (omega arith) c.requires.1 e.stands_numbers_2 e.sought.1 }

pub seek_number-requires-in_default : goal.seek_number-requires-in_default
seek_number-requires-in_default c =
    let x = c.requires.0 in
    let l = x.from_to.0 in
    record { kept = (record { masked = x.nodes.behind (omega arith); places = x.edges.behind (omega arith) }, omega arith, c.requires.1); stands_numbers = x.numbers }

pub returns-in_default : goal.returns-in_default
returns-in_default c =
    let e = c.seek_number-in_default.ensures in
    let l = c.requires.0.from_to.0 in
    record { sought = e.sought.0; stands = numbers_tried c.requires.0 (moved e.sought.0) (omega arith) c.requires.1 e.stands_numbers_2 e.sought.1 }
