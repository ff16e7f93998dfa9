-- `drive_sheet::supplies::find_codes` meets its contract.
use mathlib.Core.Path.{ap, ◌∙◌}
use mathlib.Core.Path.{◌≡◌}
use mathlib.Core.List.{List, [], ◌∷◌}
use Prim.Native.Nat.{ℕ, zero, suc, ◌<◌}
use native.Mathlib.Nat.{not-suc-le-zero, le_of_suc-le-suc}
use native.Mathlib.Omega.{arith}
use lib.ListN.{length, get_or}
use base.Fml.{Fml}
use mir.Val.{Val}
use denote.Array.{each}
use denote.Shadow.{shadow}
use Rattle.numbers.proofs.Lin.{field_back}
use Rattle.waveform.specs.contracts.GroupCodes.{the_row}
use Rattle.drive_sheet.specs.declared.Supply.TheVariants.{Vsh1, Vsh2, Vsl, Vcom}
use Rattle.drive_sheet.specs.Supplies.{supply_code}
use Rattle.drive_sheet.specs.Bytes.{no_group_codes}
use Rattle.drive_sheet.proofs.supplies.find_codes.Goals as goal

-- an array owns its elements, so what is known of it is known of each
each_at : {d : Type 0} (own : d → List Val → Fml) (none : d) (xs : List d) (us : List Val) → shadow (each d own xs us)
    → (k : ℕ) → k < length xs → (u : Val) × shadow (own (get_or xs k none) (u ∷ []))
each_at own none [] us s k l = absurd (not-suc-le-zero l)
each_at own none (x ∷ xs) [] s k l = absurd s
each_at own none (x ∷ xs) (u ∷ us) s zero l = (u, s.0)
each_at own none (x ∷ xs) (u ∷ us) s (suc k) l = each_at own none xs us s.1 k (le_of_suc-le-suc l)

pub returns : goal.returns
returns c =
    let h = c.args.sheet in
    let told = c.struct_told-1.given.0 in
    let ten : length h.groups ≡ 10 = told.1.0.1 in
    record {
      codes = λ i. record {
        vsh1 = (c.find_code.ensures ∙ ap (supply_code Vsh1) (field_back h.vsh1 c.struct_told-1.given.1.1.0.1)) i;
        vsh2 = (c.find_code-2.ensures ∙ ap (supply_code Vsh2) (field_back h.vsh2 c.struct_told-2-1.given.1.1.1.0.1)) i;
        vsl = (c.find_code-3.ensures ∙ ap (supply_code Vsl) (field_back h.vsl c.struct_told-3-1.given.1.1.1.1.0.1)) i;
        vcom = (c.find_code-4.ensures ∙ ap (supply_code Vcom) (field_back h.vcom c.struct_told-4-1.given.1.1.1.1.1.0.1)) i;
      };
      formed = record {
        ten = ten;
        group = λ k l.
            let one = each_at the_row.own_val no_group_codes h.groups told.0 told.1.1 k (omega (arith, ten)) in
            record {
              four = one.1.1.1.0.1.0.1;
              twenty = one.1.1.1.1.1.1.0.1.0.1;
            };
      };
    }
