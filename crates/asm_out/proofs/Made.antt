-- The small text makes its object.
use Rattle.std.specs.Prelude.{replicate, ℕ, List, [], ◌∷◌, Some, refl}
use Rattle.asm_lay.specs.Pieces.{Piece, own, fixed}
use Rattle.asm_lay.specs.Laying.{laid}
use Rattle.coff_rec.specs.Records.{head_bytes, section_bytes, reloc_bytes, line_bytes, symbol_bytes, aux_bytes}
use Rattle.asm_out.specs.Object.{object_of}
use Rattle.asm_out.specs.Rows.{ObjectsAreMade, ExternalsAreMade, TagsAreMade, structure, externals_used, a, statements, w}

abbrev nothing : Piece
nothing = fixed []

abbrev on_w : List ℕ → ℕ → Piece
on_w bytes at = record { bytes = bytes; relocation = Some (record { at = at; type = 6; to = own w }) }

abbrev pieces : List Piece
pieces =
    nothing ∷ nothing ∷ nothing ∷ nothing ∷ nothing
    ∷ fixed (0x55 ∷ []) ∷ fixed (0x89 ∷ 0xE5 ∷ [])
    ∷ nothing ∷ nothing ∷ fixed (0x90 ∷ [])
    ∷ nothing ∷ on_w (0xC7 ∷ 5 ∷ 0 ∷ 0 ∷ 0 ∷ 0 ∷ 7 ∷ 0 ∷ 0 ∷ 0 ∷ []) 6
    ∷ nothing ∷ on_w (0x8B ∷ 5 ∷ 0 ∷ 0 ∷ 0 ∷ 0 ∷ []) 16
    ∷ nothing ∷ nothing ∷ fixed (0x90 ∷ [])
    ∷ fixed (0xC9 ∷ []) ∷ fixed (0xC3 ∷ []) ∷ nothing
    ∷ nothing ∷ nothing ∷ nothing ∷ nothing ∷ fixed (3 ∷ 0 ∷ 0 ∷ 0 ∷ []) ∷ []

pub all_made : ObjectsAreMade
unfolding head_bytes section_bytes reloc_bytes line_bytes symbol_bytes aux_bytes
all_made = record {
  made = object_of (laid statements pieces);
  object = (pieces, (refl, (refl, (refl, (refl, (refl, (refl, (refl, (refl, (refl, (refl, (refl, (refl, (refl, (refl, (refl, (refl, (refl, (refl, (refl, (refl, (refl, (refl, (refl, (refl, (refl, (refl, tt)))))))))))))))))))))))))), refl);
  text = refl;
  init = refl;
  relocations = refl;
  lines = refl;
  symbols = refl;
  entries = refl;
  strings = refl;
  head = refl;
  pointers = refl;
  len = refl;
}

abbrev external_pieces : List Piece
external_pieces =
    nothing ∷ nothing ∷ record { bytes = 0x8B ∷ 5 ∷ 12 ∷ 0 ∷ 0 ∷ 0 ∷ []; relocation = Some (record { at = 2; type = 6; to = own a }) } ∷ []

pub externals_made : ExternalsAreMade
externals_made = record {
  made = object_of (laid externals_used external_pieces);
  object = (external_pieces, (refl, (refl, (refl, (refl, tt)))), refl);
  text = refl;
  relocations = refl;
  symbols = refl;
  strings = refl;
  flags = refl;
}

abbrev structure_pieces : List Piece
structure_pieces = nothing ∷ nothing ∷ nothing ∷ nothing ∷ nothing ∷ nothing ∷ fixed (replicate 8 0) ∷ []

pub tags_made : TagsAreMade
tags_made = record {
  made = object_of (laid structure structure_pieces);
  object = (structure_pieces, (refl, (refl, (refl, (refl, (refl, (refl, (refl, (refl, tt)))))))), refl);
  symbols = refl;
  entries = refl;
}
