-- The small texts lay what the rows say.
use Rattle.std.specs.Prelude.{ℕ, zero, suc, pos, negsuc, List, [], ◌∷◌, Some, refl}
use Rattle.std.proofs.Common.{arith, inl, inr}
use Rattle.isa386.specs.declared.ins.Target.TheVariants.{Near, Short}
use Rattle.isa386.specs.declared.ins.PlainOp.TheVariants.{Nop}
use Rattle.isa386.specs.declared.ins.Ins.TheVariants.{Jump, Plain}
use Rattle.asm_item.specs.Stand.{AreTold}
use Rattle.asm_lay.specs.Rows.{counted, loaded}
use Rattle.asm_lay.specs.Pieces.{Aim, own, section, Piece, fixed}
use Rattle.asm_lay.specs.Rows as rows
use Rattle.asm_lay.specs.Rows.{Lays, TextsAreLaid}
use Rattle.asm_lay.specs.declared.codes.TheConstants.{R_DIR32, R_PCRLONG}

abbrev nothing : Piece
nothing = fixed []

abbrev a_nop : Piece
a_nop = fixed (0x90 ∷ [])

abbrev at : List ℕ → ℕ → ℕ → Aim → Piece
at bytes o type to = record { bytes = bytes; relocation = Some (record { at = o; type = type; to = to }) }

abbrev bytes : List ℕ
bytes = 0x90 ∷ 0xE9 ∷ 0xFA ∷ 0xFF ∷ 0xFF ∷ 0xFF ∷ []

first_told : AreTold (loaded bytes) 0x10000 (0x90 ∷ [])
first_told zero h = refl
first_told (suc k) h = absurd (omega (h, arith))

jump_told : AreTold (loaded bytes) 0x10001 (0xE9 ∷ 0xFA ∷ 0xFF ∷ 0xFF ∷ 0xFF ∷ [])
jump_told zero h = refl
jump_told (suc zero) h = refl
jump_told (suc (suc zero)) h = refl
jump_told (suc (suc (suc zero))) h = refl
jump_told (suc (suc (suc (suc zero)))) h = refl
jump_told (suc (suc (suc (suc (suc k))))) h = absurd (omega (h, arith))

pub all_lay : TextsAreLaid
all_lay = record {
  back = record {
    pieces = nothing ∷ a_nop ∷ fixed (0xE9 ∷ 0xFA ∷ 0xFF ∷ 0xFF ∷ 0xFF ∷ []) ∷ [];
    laid_so = (refl, (refl, (refl, ((0xFFFFFFFA, omega arith, Jump (Near (negsuc 5)), inl refl, refl, refl), tt))));
    text_is = refl;
    init_is = refl;
    text_left_is = refl;
    init_left_is = refl;
  };
  back_short = record {
    pieces = nothing ∷ a_nop ∷ fixed (0xEB ∷ 0xFD ∷ []) ∷ [];
    laid_so = (refl, (refl, (refl, ((0xFFFFFFFD, omega arith, Jump (Short (negsuc 2)), inr (refl, record { sfits = omega arith }), refl, refl), tt))));
    text_is = refl;
    init_is = refl;
    text_left_is = refl;
    init_left_is = refl;
  };
  forward = record {
    pieces = fixed (0xE9 ∷ 3 ∷ 0 ∷ 0 ∷ 0 ∷ []) ∷ fixed (0 ∷ 0 ∷ 0 ∷ []) ∷ nothing ∷ a_nop ∷ [];
    laid_so = (refl, ((3, omega arith, Jump (Near (pos 3)), inl refl, refl, refl), (refl, (refl, (refl, tt)))));
    text_is = refl;
    init_is = refl;
    text_left_is = refl;
    init_left_is = refl;
  };
  external = record {
    pieces = nothing ∷ nothing ∷ a_nop ∷ at (0xE9 ∷ 0 ∷ 0 ∷ 0 ∷ 0 ∷ []) 2 R_PCRLONG (own rows.l) ∷ [];
    laid_so = (refl, (refl, (refl, (refl, (refl, tt)))));
    text_is = refl;
    init_is = refl;
    text_left_is = refl;
    init_left_is = refl;
  };
  fill_in_text = record {
    pieces = a_nop ∷ fixed (0x90 ∷ 0x90 ∷ 0x90 ∷ []) ∷ a_nop ∷ [];
    laid_so = (refl, (refl, (refl, (refl, tt))));
    text_is = refl;
    init_is = refl;
    text_left_is = refl;
    init_left_is = refl;
  };
  fill_in_data = record {
    pieces = nothing ∷ fixed (1 ∷ []) ∷ fixed (0 ∷ 0 ∷ 0 ∷ []) ∷ fixed (2 ∷ []) ∷ [];
    laid_so = (refl, (refl, (refl, (refl, (refl, tt)))));
    text_is = refl;
    init_is = refl;
    text_left_is = refl;
    init_left_is = refl;
  };
  addends = record {
    pieces =
        nothing ∷ nothing ∷ fixed (1 ∷ []) ∷ at (4 ∷ 0 ∷ 0 ∷ 0 ∷ []) 1 R_DIR32 (section 2) ∷ nothing
        ∷ at (0xB8 ∷ 0 ∷ 0 ∷ 0 ∷ 0 ∷ []) 1 R_DIR32 (section 2)
        ∷ at (0x8B ∷ 0x0D ∷ 0xFF ∷ 0xFF ∷ 0xFF ∷ 0xFF ∷ []) 7 R_DIR32 (section 2) ∷ [];
    laid_so = (refl, (refl, (refl, (refl, (refl, (refl, (refl, (refl, tt))))))));
    text_is = refl;
    init_is = refl;
    text_left_is = refl;
    init_left_is = refl;
  };
  into_data = record {
    pieces =
        at (0xE9 ∷ 4 ∷ 0 ∷ 0 ∷ 0 ∷ []) 1 R_PCRLONG (section 2) ∷ nothing
        ∷ fixed (1 ∷ 0 ∷ 0 ∷ 0 ∷ []) ∷ nothing ∷ fixed (2 ∷ 0 ∷ 0 ∷ 0 ∷ []) ∷ [];
    laid_so = (refl, (refl, (refl, (refl, (refl, (refl, tt))))));
    text_is = refl;
    init_is = refl;
    text_left_is = refl;
    init_left_is = refl;
  };
  in_bss = record {
    pieces = nothing ∷ nothing ∷ at (0xB8 ∷ 4 ∷ 0 ∷ 0 ∷ 0 ∷ []) 1 R_DIR32 (section 3) ∷ [];
    laid_so = (refl, (refl, (refl, (refl, tt))));
    text_is = refl;
    init_is = refl;
    text_left_is = refl;
    init_left_is = refl;
  };
  stands = (
    counted 0x10000,
    (refl, refl),
    0x10000 ∷ [],
    refl,
    (
      counted 0x10000,
      refl,
      [],
      refl,
      (
        counted 0x10001,
        (Plain Nop, refl, (first_told, refl)),
        [],
        refl,
        (counted 0x10006, (Jump (Near (negsuc 5)), (0xFFFFFFFA, omega arith, inl refl, refl), (jump_told, refl)), [], refl, (refl, refl)),
      ),
    ),
  );
}
