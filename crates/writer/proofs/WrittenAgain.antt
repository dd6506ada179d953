-- "An accepted file, read and written again, is the same bytes without its preface."
use mathlib.Core.Path.{◌≡◌, refl, sym, subst, ap, ap₂, ◌∙◌}
use mathlib.Core.List.{List, ◌++◌, append_assoc}
use Prim.Native.Nat.{ℕ, ◌+◌, ◌-◌, ◌/◌, ◌≤◌, ◌<◌}
use native.Mathlib.Omega.{arith}
use lib.ListN.{length, get_or, take, drop, length-drop, take-append-drop}
use lib.Seq.{take-add, drop-drop, get_or-drop}
use Rattle.little.specs.Little.{little, bytes}
use Rattle.little.proofs.Inverse.{bytes_little}
use Rattle.layout.specs.declared.File.TheVariants.{Graph}
use Rattle.layout.specs.declared.Trailer.{Trailer}
use Rattle.layout.specs.Tables.{between}
use Rattle.layout.specs.Files.{mark, numbers, body_size, before, numbers_of, tables_of, body_of, Body, Full, ceilings}
use Rattle.layout.specs.Refusals.{here, later, Held, FileAccepted}
use Rattle.layout.proofs.Accepted.{sized, marked, held, located, rows_good, accepted_full}
use Rattle.writer.specs.declared.Outcome.{Outcome}
use Rattle.writer.specs.GraphFile.{tables, counts, numbers_for, trailer, file_of, without_preface}
use Rattle.writer.specs.Outcome.{outcome, refused, wrote}
use Rattle.writer.specs.Writes.{Writable, Writes}
use Rattle.writer.proofs.LentTables.{tables_size}
use Rattle.writer.proofs.ReadAgain.{rows_on}

-- ---- parts of a list, one after another

-- a number's bytes, where those before it are known
next : (t xs : List ℕ) (at w v : ℕ) → xs ≡ take at t → bytes w v ≡ take w (drop at t) → xs ++ bytes w v ≡ take (at + w) t
next t xs at w v e h = ap₂ ◌++◌ e h ∙ sym (take-add at w t)

-- a part, and what follows it
part_then : (f : List ℕ) (a b : ℕ) → a ≤ b → between f a b ++ drop b f ≡ drop a f
part_then f a b h =
    let e : a + (b - a) ≡ b = omega arith in
    let d : drop (b - a) (drop a f) ≡ drop b f = drop-drop (b - a) a f ∙ ap (λ k. drop k f) e in
    rw (← d) (take-append-drop (b - a) (drop a f))

parts_then : (f : List ℕ) (a b c d e : ℕ) → a ≤ b → b ≤ c → c ≤ d → d ≤ e → between f a b ++ between f b c ++ between f c d ++ between f d e ++ drop e f ≡ drop a f
parts_then f a b c d e h i j k =
    rw (append_assoc, append_assoc, append_assoc, part_then f d e k, part_then f c d j, part_then f b c i) (part_then f a b h)

-- ---- the trailer

-- the trailer of the numbers that 28 bytes say is these bytes
trailer_again : (t : List ℕ) → ((i : ℕ) → get_or t i 0 < 256) → length t ≡ 28 → drop 24 t ≡ mark Graph → trailer (numbers Graph t) ≡ t
trailer_again t small l m =
    let nodes : bytes 4 (little 4 t 0) ≡ take 4 t = bytes_little t small 4 0 (omega arith) in
    let edges = next t (bytes 4 (little 4 t 0)) 4 4 (little 4 t 4) nodes (bytes_little t small 4 4 (omega arith)) in
    let rows = next t (bytes 4 (little 4 t 0) ++ bytes 4 (little 4 t 4)) 8 4 (little 4 t 8) edges (bytes_little t small 4 8 (omega arith)) in
    let text : counts (numbers Graph t) ≡ take 16 t = next t (bytes 4 (little 4 t 0) ++ bytes 4 (little 4 t 4) ++ bytes 4 (little 4 t 8)) 12 4 (little 4 t 12) rows (bytes_little t small 4 12 (omega arith)) in
    let labels = next t (counts (numbers Graph t)) 16 2 (little 2 t 16) text (bytes_little t small 2 16 (omega arith)) in
    let names = next t (counts (numbers Graph t) ++ bytes 2 (little 2 t 16)) 18 2 (little 2 t 18) labels (bytes_little t small 2 18 (omega arith)) in
    let back = next t (counts (numbers Graph t) ++ bytes 2 (little 2 t 16) ++ bytes 2 (little 2 t 18)) 20 4 (little 4 t 20) names (bytes_little t small 4 20 (omega arith)) in
    ap₂ ◌++◌ back (sym m) ∙ take-append-drop 24 t

-- ---- an accepted file

-- full tables count as many rows as their numbers say
pub counted_again : (n : Trailer) (b : Body) → Full Graph n b → n.back ≡ body_size Graph n → numbers_for b n.labels n.names ≡ n
counted_again n b f e =
    let nodes : length b.nodes / 16 ≡ n.nodes = omega (arith, f.nodes) in
    let edges : length b.edges / 24 ≡ n.edges = omega (arith, f.edges) in
    let rows : length b.rows / 16 ≡ n.rows = omega (arith, f.rows) in
    let back : length (tables b) ≡ n.back = omega (arith, tables_size b, f.nodes, f.edges, f.rows, f.text) in
    rw (nodes, edges, rows, f.text, back) refl

module _ (f : List ℕ) (p : FileAccepted Graph (ceilings Graph) f) where
  full : Full Graph (numbers_of Graph f) (body_of Graph f)
  full = accepted_full Graph f (ceilings Graph) p

  own_numbers : numbers_for (body_of Graph f) (numbers_of Graph f).labels (numbers_of Graph f).names ≡ numbers_of Graph f
  own_numbers = counted_again (numbers_of Graph f) (body_of Graph f) full (located Graph f (ceilings Graph) p).exact

  -- the tables of an accepted file can be written
  pub writable_again : Writable (body_of Graph f) (numbers_of Graph f).labels (numbers_of Graph f).names
  writable_again = record {
    whole = record { nodes = omega (arith, full.nodes); edges = omega (arith, full.edges); rows = omega (arith, full.rows) };
    held = subst (Held (ceilings Graph)) (sym own_numbers) (held Graph f (ceilings Graph) p);
    rows = rows_on Graph (sym own_numbers) refl (rows_good Graph f (ceilings Graph) p);
  }

  -- where every element is a byte, as in each block that is lent (past the end `get_or` gives 0)
  module _ (small : (i : ℕ) → get_or f i 0 < 256) where
    own_trailer : trailer (numbers_of Graph f) ≡ drop (before Graph f) f
    own_trailer =
        let z = (sized Graph f (ceilings Graph) p).least in
        let e : length f - 28 + 24 ≡ length f - 4 = omega arith in
        trailer_again (drop (before Graph f) f)
        (λ i. rw get_or-drop (small (before Graph f + i)))
        (rw length-drop (omega arith))
        (drop-drop 24 (before Graph f) f ∙ rw e (marked Graph f (ceilings Graph) p))

    -- and give the file again
    pub file_again : file_of (body_of Graph f) (numbers_of Graph f).labels (numbers_of Graph f).names ≡ without_preface f
    file_again =
        let n = numbers_of Graph f in
        let s = (tables_of Graph f).starts in
        let l = located Graph f (ceilings Graph) p in
        let e : before Graph f ≡ s.end = omega (arith, l.exact, l.inside) in
        ap (λ m. tables (body_of Graph f) ++ trailer m) own_numbers
        ∙ ap (λ t. tables (body_of Graph f) ++ t) (own_trailer ∙ ap (λ k. drop k f) e)
        ∙ parts_then f s.nodes s.edges s.rows s.text s.end (omega arith) (omega arith) (omega arith) (omega arith)

    -- the same of the writer's promise: where the output has room, the file without its preface is written
    pub wrote_again :
        (out after : List ℕ) (o : Outcome) → Writes (body_of Graph f) (numbers_of Graph f).labels (numbers_of Graph f).names out o after
        → length (without_preface f) ≤ length out → (o ≡ outcome 0 (length (without_preface f))) × (after ≡ without_preface f ++ drop (length (without_preface f)) out)
    wrote_again out after o (refused (here x l) e g) h = absurd (l.holds writable_again)
    wrote_again out after o (refused (later i (here x l)) e g) h = absurd (l.holds (subst (λ z. length z ≤ length out) (sym file_again) h))
    wrote_again out after o (refused (later i (later j r)) e g) h = absurd r
    wrote_again out after o (wrote q e g) h = (e ∙ ap (λ z. outcome 0 (length z)) file_again, g ∙ ap (λ z. z ++ drop (length z) out) file_again)
