-- Limits, edges and temporaries of small programs.
use Rattle.std.proofs.Common.{◌≡◌, ℕ, zero, suc, List, ◌∷◌, [], refl, Option, None, Some, false}
use Rattle.c_type.specs.Types.{CType, num, ptr, arr, fun}
use Rattle.c_type.specs.declared.Kind.TheVariants.{Char, Int}
use Rattle.c_type.specs.declared.TagKind.TheVariants.{Struct}
use Rattle.c_tree.specs.TExpr as e
use Rattle.c_tree.specs.TExpr.{TExpr}
use Rattle.c_tree.specs.declared.typed_expr.TBinary.TheVariants.{Sub}
use Rattle.c_tree.specs.TStmt as st
use Rattle.c_tree.specs.TStmt.{Declr}
use Rattle.c_tree.specs.TUnit as u
use Rattle.c_tree.specs.TUnit.{TypedUnit, Program}
use Rattle.c_tree.specs.declared.typed_unit.Bound.TheVariants.{Outside}
use Rattle.c_tree.specs.Starts.{at}
use Rattle.c_limit.specs.Edges.{edges, FileOpens, FileCloses, BodyOpens, BodyCloses, BlockOpens, BlockCloses, Begins}
use Rattle.c_limit.specs.Temporaries.{temporaries}
use Rattle.c_limit.specs.Limits.{limits, first_passed, Excess, Total, Lines, Init, Object, Derivations, Dimensions, Temporaries}

abbrev int : CType
int = num Int

-- a program of one unit
abbrev program : TypedUnit → Program
program x = record { units = x ∷ []; classes = [] ∷ [] }

-- `T x;` at file level
abbrev of_type : CType → Program
of_type t =
    program (record { tags = []; texts = []; exts = u.object (u.plain int) (record { declr = record { name = 120 ∷ []; ty = t; dims = [] }; bound = Outside; init = None } ∷ []) ∷ [] })

-- which limit `T x;` passes
abbrev passed : CType → Option Excess
passed t = first_passed (limits (of_type t) (20 ∷ []))

-- arrays of 65,535 bytes and one more, behind a pointer too
row_object : (passed (arr 65535 (num Char)) ≡ None) × (passed (arr 65536 (num Char)) ≡ Some (Object (120 ∷ []))) × (passed (ptr (arr 70000 (num Char))) ≡ Some (Object (120 ∷ [])))
row_object = (refl, refl, refl)

-- .bss of 16,777,216 bytes and one more, which goes before the array's own limit
row_init : (passed (arr 16777216 (num Char)) ≡ Some (Object (120 ∷ []))) × (passed (arr 16777217 (num Char)) ≡ Some Init)
row_init = (refl, refl)

-- six stars and seven; four arrays and five
row_derived :
    (passed (ptr (ptr (ptr (ptr (ptr (ptr int)))))) ≡ None) × (passed (ptr (ptr (ptr (ptr (ptr (ptr (ptr int))))))) ≡ Some (Derivations (120 ∷ []))) ×
    (passed (arr 1 (arr 1 (arr 1 (arr 1 int)))) ≡ None) × (passed (arr 1 (arr 1 (arr 1 (arr 1 (arr 1 int))))) ≡ Some (Dimensions (120 ∷ [])))
row_derived = (refl, refl, refl, refl)

-- a text of 131,000 bytes and one more
row_total : (first_passed (limits (of_type int) (131000 ∷ [])) ≡ None) × (first_passed (limits (of_type int) (1000 ∷ (130001 ∷ []))) ≡ Some Total)
row_total = (refl, refl)

-- a structure of so many bytes stands at its closing brace under its own name, behind its members
abbrev structured : (size : ℕ) → (member : CType) → Program
structured n t =
    program (record {
      tags = record { name = 115 ∷ []; kind = Struct; members = record { name = 109 ∷ []; off = 0; ty = t } ∷ []; size = n; align = 1 } ∷ [];
      texts = [];
      exts = u.tag_only (u.struct_body 0 (u.more_mems (u.plain (num Char)) (record { name = 109 ∷ []; ty = t; dims = [] } ∷ []) u.no_mems)) ∷ [];
    })

-- a member stands under its own name, a tag under its own
row_tag :
    (first_passed (limits (structured 65535 (arr 65535 (num Char))) (30 ∷ [])) ≡ None) × (first_passed (limits (structured 65536 (num Char)) (30 ∷ [])) ≡ Some (Object (115 ∷ []))) ×
    (first_passed (limits (structured 65536 (arr 65536 (num Char))) (30 ∷ [])) ≡ Some (Object (109 ∷ [])))
row_tag = (refl, refl, refl)

-- a function of that body, from line 1 on, whose braces are starts 0 and k
abbrev main : List st.LocalDecl → st.TStmts → (k close_line : ℕ) → TypedUnit
main ds ss k l =
    record {
      tags = [];
      texts = [];
      exts = u.func (u.plain int) (record {
        name = 109 ∷ [];
        is_static = false;
        result = int;
        params = [];
        declared = [];
        open_ = 0;
        line = 1;
        locals = ds;
        stmts = ss;
        close = k;
        close_line = l;
      }) ∷ [];
    }

-- `m() {`, `{ ; }`, `}`: the inner block has edges, the outermost one has none of its own
row_edges :
    edges (main [] (st.more_stmts (st.block 2 [] (st.more_stmts (st.empty 1 2) st.no_stmts) 2) st.no_stmts) 2 3) ≡
    FileOpens ∷ (BodyOpens 0 ∷ (Begins (at 0 1) ∷ (BlockOpens 2 ∷ (Begins (at 1 2) ∷ (BlockCloses 2 ∷ (Begins (at 2 3) ∷ (BodyCloses 0 ∷ (FileCloses ∷ []))))))))
row_edges = refl

-- a start on line 65,535 and on the next
row_lines :
    (first_passed (limits (program (main [] st.no_stmts 1 65535)) (9 ∷ [])) ≡ None) × (first_passed (limits (program (main [] st.no_stmts 1 65536)) (9 ∷ [])) ≡ Some (Lines 0))
row_lines = (refl, refl)

abbrev one : TExpr
one = e.int int 1

abbrev less : TExpr → TExpr → TExpr
less a b = e.binary int Sub a b

-- a call of f with two arguments, by name and through a pointer
abbrev called : TExpr → TExpr
called f = e.call int f (e.more_args one (e.more_args (less one one) e.no_args))

-- a left part is kept; the assignment counts as an operator does; the second of two arguments is computed with the first kept
row_temporaries :
    (temporaries (less (less one one) one) ≡ 1) × (temporaries (less one (less one one)) ≡ 2) × (temporaries (e.assign int one (less one one)) ≡ 2) × (temporaries (e.size_of (less one one)) ≡ 0) ×
    (temporaries (called (e.name (fun int) (e.Outer (102 ∷ [])))) ≡ 2) × (temporaries (called (e.name (ptr (fun int)) (e.Ext (102 ∷ [])))) ≡ 3)
row_temporaries = (refl, refl, refl, refl, refl, refl)

-- a right-nested difference of so many operators
abbrev nested : ℕ → TExpr
nested zero = one
nested (suc n) = less one (nested n)

abbrev returns : TExpr → Program
returns a = program (main [] (st.more_stmts (st.return_ 1 2 (Some a)) st.no_stmts) 2 3)

-- 64 temporaries and 65
row_most : (first_passed (limits (returns (nested 64)) (300 ∷ [])) ≡ None) × (first_passed (limits (returns (nested 65)) (300 ∷ [])) ≡ Some (Temporaries (109 ∷ [])))
row_most = (refl, refl)
