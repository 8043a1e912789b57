-- Each tree is at least one deep, and one with a row of parts is one deeper than its deepest part.
use Rattle.std.proofs.Common.{◌≡◌, ℕ, ◌+◌, ◌-◌, ◌≤◌, max, Bool, true, false, Option, map, nat_lt, refl, ap, arith, sym, ◌∙◌, Vec, Box, Global}
use Rattle.std.proofs.lemmas.Bool.{lt-ltb}
use mathlib.Core.Former.{Count}
use Rattle.c_tree.specs.declared.expr.Expr.{Expr, Call}
use Rattle.c_tree.specs.TreeExpr as t
use Rattle.c_tree.specs.TreeExpr.{expr_depth, exprs_depth}
use Rattle.c_tree.specs.TreeDecl as td
use Rattle.c_tree.specs.TreeDecl.{declr_depth, init_depth, inits_depth, def_depth, mems_depth}
use Rattle.c_tree.specs.TreeOf.{expr_of, exprs_from}
use Rattle.c_tree.specs.declared.decl.Init.{Init, Group}
use Rattle.c_tree.specs.declared.decl.Mem.{Mem}
use Rattle.c_tree.specs.declared.decl.TagDef as g
use Rattle.c_tree.specs.declared.decl.TagDef.{TagDef, Struct, Union}
use Rattle.c_type.specs.Names.{Name}
use Rattle.c_tree.specs.TreeOf.{init_of, inits_from, declr_of, types_of, def_of, mems_of, mems_from}
use Rattle.c_tree.proofs.Of.{expr_of-Call, init_of-Group, def_of-Struct}
use Rattle.c_decl.proofs.DeclrAgain.{declr_deep}

expr_deep : (e : t.Expr) → 1 ≤ expr_depth e
expr_deep (t.comma l a b) = omega arith
expr_deep (t.assign l op a b) = omega arith
expr_deep (t.choice l a b c) = omega arith
expr_deep (t.binary l op a b) = omega arith
expr_deep (t.unary l op e) = omega arith
expr_deep (t.size_of l e) = omega arith
expr_deep (t.size_of_type l y) = omega arith
expr_deep (t.cast l y e) = omega arith
expr_deep (t.index l a i) = omega arith
expr_deep (t.call l f es) = omega arith
expr_deep (t.member l e x) = omega arith
expr_deep (t.arrow l e x) = omega arith
expr_deep (t.post l op e) = omega arith
expr_deep (t.name l x) = omega arith
expr_deep (t.int l n long) = omega arith
expr_deep (t.chr l n) = omega arith
expr_deep (t.text l bytes) = omega arith

init_deep : (i : td.Init) → 1 ≤ init_depth i
init_deep (td.single e) = omega arith
init_deep (td.group l is) = omega arith

def_deep : (d : td.TagDef) → 1 ≤ def_depth d
def_deep (td.struct l x ms) = omega arith
def_deep (td.union l x ms) = omega arith
def_deep (td.enum l x es) = omega arith

pub none_exceeds : (most depth : ℕ) → most ≡ 0 → 1 ≤ depth → true ≡ nat_lt most depth
none_exceeds most depth is deep = sym (lt-ltb most depth (omega arith))

pub expr_exceeds_none : (most : ℕ) (e : t.Expr) → most ≡ 0 → true ≡ nat_lt most (expr_depth e)
expr_exceeds_none most e is = none_exceeds most (expr_depth e) is (expr_deep e)

pub declr_exceeds_none : (most : ℕ) (e : td.Declr) → most ≡ 0 → true ≡ nat_lt most (declr_depth e)
declr_exceeds_none most e is = none_exceeds most (declr_depth e) is (declr_deep e)

pub init_exceeds_none : (most : ℕ) (i : td.Init) → most ≡ 0 → true ≡ nat_lt most (init_depth i)
init_exceeds_none most i is = none_exceeds most (init_depth i) is (init_deep i)

pub def_exceeds_none : (most : ℕ) (d : td.TagDef) → most ≡ 0 → true ≡ nat_lt most (def_depth d)
def_exceeds_none most d is = none_exceeds most (def_depth d) is (def_deep d)

only_exceeds : (most a : ℕ) → 1 ≤ most → nat_lt (most - 1) a ≡ nat_lt most (1 + a)
only_exceeds most a some = grind arith

mems_are : (n : _) (row : g.TheBlock.Row_of-Mem n) → mems_of row ≡ mems_from (g.items-the_row-Mem n row)
mems_are n g.TheBlock.end_of-Mem = refl
mems_are n (g.TheBlock.more_of-Mem l y ds ms) = ap (td.more_mems (td.mem l (types_of y) (map declr_of ds.items))) (mems_are _ ms)

abbrev mems_in : TagDef → (n : Count) × g.TheBlock.Row_of-Mem n
mems_in (g.TheBlock.Union' _ _ _ row) = (_, row)
mems_in _ = (_, g.TheBlock.end_of-Mem)

def_of-Union : (l : ℕ) (x : Option Name) (ms : Vec Mem Global) → def_of (Union l x ms) ≡ td.union l x (mems_from ms.items)
def_of-Union l x ms =
    let row = mems_in (Union l x ms) in
    ap (td.union l x) (mems_are row.0 row.1 ∙ ap mems_from (g.items_hidden-the_row-Mem-0 ms))

-- where one of two parts isn't deeper, the other one decides
pub other_exceeds : (most a b : ℕ) → 1 ≤ most → nat_lt (most - 1) a ≡ false → nat_lt (most - 1) b ≡ nat_lt most (1 + max a b)
other_exceeds most a b some is = grind arith

pub call_exceeds : (most l : ℕ) (f : Box Expr Global) (es : Vec Expr Global) (e : Expr) (o : Bool) → e ≡ Call l f es → 1 ≤ most → nat_lt (most - 1) (expr_depth (expr_of f.value)) ≡ false
    → o ≡ nat_lt (most - 1) (exprs_depth (exprs_from es.items)) → o ≡ nat_lt most (expr_depth (expr_of e))
call_exceeds most l f es e o is some low same =
    same ∙ other_exceeds most (expr_depth (expr_of f.value)) (exprs_depth (exprs_from es.items)) some low ∙ ap (λ y. nat_lt most (expr_depth y)) (sym (expr_of-Call l f es) ∙ ap expr_of (sym is))

pub group_exceeds : (most l : ℕ) (is : Vec Init Global) (i : Init) (o : Bool) → i ≡ Group l is → 1 ≤ most → o ≡ nat_lt (most - 1) (inits_depth (inits_from is.items)) → o ≡ nat_lt most (init_depth (init_of i))
group_exceeds most l is i o at some same =
    same ∙ only_exceeds most (inits_depth (inits_from is.items)) some ∙ ap (λ y. nat_lt most (init_depth y)) (sym (init_of-Group l is) ∙ ap init_of (sym at))

pub struct_exceeds : (most l : ℕ) (x : Option Name) (ms : Vec Mem Global) (d : TagDef) (o : Bool) → d ≡ Struct l x ms → 1 ≤ most → o ≡ nat_lt (most - 1) (mems_depth (mems_from ms.items)) → o ≡ nat_lt most (def_depth (def_of d))
struct_exceeds most l x ms d o at some same =
    same ∙ only_exceeds most (mems_depth (mems_from ms.items)) some ∙ ap (λ y. nat_lt most (def_depth y)) (sym (def_of-Struct l x ms) ∙ ap def_of (sym at))

pub union_exceeds : (most l : ℕ) (x : Option Name) (ms : Vec Mem Global) (d : TagDef) (o : Bool) → d ≡ Union l x ms → 1 ≤ most → o ≡ nat_lt (most - 1) (mems_depth (mems_from ms.items)) → o ≡ nat_lt most (def_depth (def_of d))
union_exceeds most l x ms d o at some same =
    same ∙ only_exceeds most (mems_depth (mems_from ms.items)) some ∙ ap (λ y. nat_lt most (def_depth y)) (sym (def_of-Union l x ms) ∙ ap def_of (sym at))
