-- `put_angle` writes two property rows, one behind the other.
use borrow.Author.Rules.{rules}
use lib.Dec.{T}
use mathlib.Core.Path.{◌≡◌, ap, ◌∙◌}
use mir.Syntax.{w64}
use mir.Val.{to_z, of_z}
use Rattle.sheet.specs.Tables.{twos}
use mathlib.Core.Bool.{not}
use lib.Ieee.{Float, nan, inf, fin, is_nan}
use Rattle.layout.specs.Value.{Finite}
use Rattle.sheet.proofs.Puts.{put_angle_rows}
use Rattle.sheet.proofs.put_angle.Goals as goal

-- a finite value is no NaN
no_nan : (x : Float) → Finite x → T (not (is_nan x))
unfolding is_nan
no_nan nan h = h
no_nan (inf s) h = tt
no_nan (fin s m e) h = tt

pub float_to_bits-a : goal.float_to_bits-a
float_to_bits-a c = no_nan c.args.a.coefficient c.requires.1

pub returns : goal.returns
returns c =
    let same : to_z w64 (of_z w64 c.args.a.degrees) ≡ c.args.a.degrees = search rules in
    put_angle_rows c.args.rows.now _ _ c.args.i c.args.a (c.bits_of.ensures ∙ ap twos same) c.put_property.ensures c.put_property-2.ensures
