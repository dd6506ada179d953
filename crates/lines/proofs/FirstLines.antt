-- Laws of the first line: what the steps of reading it give together.
use mathlib.Core.Path.{◌≡◌, refl, sym, ap, ◌∙◌, subst}
use mathlib.Core.Logic.{◌≢◌}
use mathlib.Core.Bool.{Bool, true, false, cond, not, ◌||◌}
use mathlib.Core.List.{List, [], ◌∷◌, ◌++◌, append_assoc}
use Prim.Native.Nat.{ℕ, zero, suc, ◌+◌, ◌≤◌, ◌<◌}
use native.Mathlib.Numerals.{one-add}
use native.Mathlib.Omega.{arith}
use borrow.Author.Tests.{eqb-true, eqb-false}
use lib.Dec.{eqb}
use lib.ListN.{length, get_or, take, drop, length-append}
use lib.Seq.{take_at}
use Rattle.std.specs.Prelude.{None}
use Rattle.std.specs.List.{prefix_len}
use Rattle.little.specs.Promise.{Says}
use Rattle.lines.specs.Digits.{semicolon, dash, LF, CR, Each}
use Rattle.lines.specs.Line.{InSerial, DateText, FirstLine}
use Rattle.lines.specs.Sheet.{lines_of, line_of, GoodFirst}
use Rattle.lines.specs.Promise.{Heads}
use Rattle.lines.specs.Inner.{From, Run, in_serial, ReadsDate, TellsDate, ReadsEnd, TellsEnd}
use Rattle.lines.proofs.Texts.{head_same, each_append, byte_is, step, past, within, from_then, from_byte, rest_of, run_one, run_ended}
use Rattle.lines.proofs.Dates.{ten}
use Rattle.lines.proofs.FurtherLines.{digits_no_lf}
use Rattle.lines.proofs.Lines.{NoLf, each_of, line_cut, front}

-- ---- the serial's bytes are those in front that may stand in it

says_in_serial : (x : ℕ) → Says (in_serial x) (InSerial x)
says_in_serial x = by_tests (eqb x semicolon) (eqb x CR) (eqb x LF) refl refl refl
  where
    by_tests : (a b c : Bool) → eqb x semicolon ≡ a → eqb x CR ≡ b → eqb x LF ≡ c → Says (not (a || (b || c))) (InSerial x)
    by_tests true b c e f g = λ p. p.semicolon (eqb-true x semicolon e)
    by_tests false true c e f g = λ p. p.cr (eqb-true x CR f)
    by_tests false false true e f g = λ p. p.lf (eqb-true x LF g)
    by_tests false false false e f g = record { semicolon = eqb-false x semicolon e; cr = eqb-false x CR f; lf = eqb-false x LF g }

-- n of the first m bytes are those of a serial
record InFront (m : ℕ) (s : List ℕ) (n : ℕ) : Type 0 where
  pub text : List ℕ
  pub here : s ≡ text ++ drop n s
  pub ends : n ≡ length text
  pub run : Run InSerial m text (drop n s)

in_front : (m : ℕ) (s : List ℕ) → InFront m s (prefix_len in_serial (take m s))
in_front zero s = record { text = []; here = refl; ends = refl; run = record { few = omega arith; each = tt; stops = λ h. absurd (omega arith) } }
in_front (suc m) [] = record { text = []; here = refl; ends = refl; run = record { few = omega arith; each = tt; stops = λ h x r e. absurd (cc) } }
in_front (suc m) (x ∷ s) = by_byte (in_serial x) (says_in_serial x) (in_front m s)
  where
    by_byte : (b : Bool) → Says b (InSerial x) → {n : ℕ} → InFront m s n → InFront (suc m) (x ∷ s) (cond b (1 + n) 0)
    by_byte true p {n} g =
        record {
          text = x ∷ g.text;
          here = rw (one-add n) (ap (λ (l : List ℕ). x ∷ l) g.here);
          ends = omega (arith, g.ends);
          run = rw (one-add n) (record { few = omega (arith, g.run.few); each = (p, g.run.each); stops = λ h. g.run.stops (omega arith) });
        }
    by_byte false p g =
        record { text = []; here = refl; ends = refl; run = record { few = omega arith; each = tt; stops = λ h y r e q. p (subst InSerial (sym (head_same e)) q) } }

-- the serial's bytes, or what stands in its place: one more than it may have are enough to know that it is too long
pub record ReadsSerial (s : List ℕ) (end : ℕ) : Type 0 where
  pub text : List ℕ
  pub from : From s 0 end text
  pub run : Run InSerial 33 text (drop end s)

pub serial_read : (s : List ℕ) {n : ℕ} → n ≡ prefix_len in_serial (take 33 s) → ReadsSerial s n
serial_read s {n} e =
    let g : InFront 33 s n = rw e (in_front 33 s) in
    let l = ap length g.here in
    record { text = g.text; from = record { here = g.here; ends = omega (arith, g.ends); inside = omega (arith, g.ends, length-append g.text (drop n s)) }; run = g.run }

-- ---- a first line has no LF but its last byte

dash_no_lf : NoLf dash
dash_no_lf e = absurd (omega arith)

date_no_lf : {t : List ℕ} {n : ℕ} → DateText t n → Each NoLf t
date_no_lf q =
    subst (Each NoLf) (sym q.text)
    (each_append NoLf q.year _ (digits_no_lf q.year q.year_digits) (dash_no_lf, each_append NoLf q.month _ (digits_no_lf q.month q.month_digits) (dash_no_lf, digits_no_lf q.day q.day_digits)))

pub first_cut : {l serial : List ℕ} {date : ℕ} → FirstLine l serial date → (rest : List ℕ) → lines_of (l ++ rest) ≡ l ∷ lines_of rest
first_cut {l} {serial} q rest =
    let t : List ℕ = serial ++ (semicolon ∷ q.dated) in
    let p : Each NoLf t = each_append NoLf serial (semicolon ∷ q.dated) (each_of (λ x h. h.lf) serial q.named.each) ((λ e. absurd (omega arith)), date_no_lf q.says) in
    let e : l ≡ t ++ q.end = q.text ∙ sym (append_assoc serial (semicolon ∷ q.dated) q.end) in
    rw e (line_cut t q.end rest p q.ended)

module _ (s : List ℕ) {n : ℕ} (g : ReadsSerial s n) where
  serial_length : n ≡ length g.text
  serial_length = let e = g.from.ends in omega arith

  -- ---- a good line

  module _ {date next : ℕ} (low : 1 ≤ n) (high : n ≤ 32) (e : get_or s n 0 ≡ 59) (d : ReadsDate s (n + 1) date) (k : ReadsEnd s (n + 11) next) where
    abbrev line_text : List ℕ
    line_text = g.text ++ (semicolon ∷ (d.text ++ k.text))

    line_from : From s 0 next line_text
    line_from =
        let eleven : n + 1 + 10 ≡ n + 11 = omega arith in
        from_then s g.from (from_then s (from_byte s (within s n (omega arith)) e) (from_then s (rw eleven at d.from) k.from))

    line_says : FirstLine line_text g.text date
    line_says =
        record {
          dated = d.text;
          end = k.text;
          text = refl;
          named = record { from = let l = serial_length in omega arith; to = let l = serial_length in omega arith; each = g.run.each };
          says = d.says;
          ended = k.says;
        }

    pub good_first : Heads s (record { serial = n; date = date; next = next })
    good_first =
        let o : line_of s 1 ≡ line_text = ap (λ (l : List ℕ). line_of l 1) line_from.here ∙ ap (λ (ls : List (List ℕ)). first_of ls) (first_cut line_says (drop next s)) in
        let t : take n s ≡ g.text = ap (λ (l : List ℕ). take n l) g.from.here ∙ take_at g.text (drop n s) n (sym serial_length) in
        record {
          inside = g.from.inside;
          says = rw (o, t) line_says;
          next = let f = line_from.ends in let h = ap length o in omega arith;
        }
      where
        first_of : List (List ℕ) → List ℕ
        first_of ls = get_or ls 0 []

  -- ---- a bad line

  module _ (q : GoodFirst s) where
    -- were it good, this would stand in the sheet
    would : s ≡ q.serial ++ (semicolon ∷ (q.says.dated ++ (q.says.end ++ (front s).rest)))
    would =
        let rest : List ℕ = (front s).rest in
        let f : (q.serial ++ (semicolon ∷ (q.says.dated ++ q.says.end))) ++ rest ≡ q.serial ++ (semicolon ∷ (q.says.dated ++ (q.says.end ++ rest))) = simp append_assoc in
        (front s).text ∙ ap (λ (l : List ℕ). l ++ rest) q.says.text ∙ f

    same_serial : g.text ≡ q.serial
    same_serial =
        run_one 33 g.text q.serial g.run (run_ended 33 q.serial (omega (arith, q.says.named.to)) q.says.named.each (λ p. p.semicolon refl)) (sym g.from.here ∙ would)

    pub needs_serial : n < 1 → ⊥
    needs_serial h = let e = ap length same_serial in let l = serial_length in omega (arith, q.says.named.from)

    pub needs_short : 32 < n → ⊥
    needs_short h = let e = ap length same_serial in let l = serial_length in omega (arith, q.says.named.to)

    at_semicolon : drop n s ≡ semicolon ∷ (q.says.dated ++ (q.says.end ++ (front s).rest))
    at_semicolon = rest_of s g.from same_serial would

    pub needs_semicolon : get_or s n 0 ≢ 59 → ⊥
    needs_semicolon not_so = not_so (byte_is s n semicolon _ at_semicolon)

    date_here : drop (n + 1) s ≡ q.says.dated ++ (q.says.end ++ (front s).rest)
    date_here = step s n semicolon _ at_semicolon

    pub needs_date : TellsDate None s (n + 1) → ⊥
    needs_date not_so = not_so q.says.dated _ q.date q.says.says date_here

    pub needs_end : TellsEnd None s (n + 11) → ⊥
    needs_end not_so =
        let eleven : n + 1 + length q.says.dated ≡ n + 11 = omega (arith, ten q.says.says) in
        not_so q.says.end (front s).rest q.says.ended (rw eleven at (past s (n + 1) q.says.dated _ date_here))
