-- Worked units: the tree that each of these texts spells.
use Rattle.std.proofs.Common.{[], ◌∷◌, Some, None, true, false, refl, lit≤, lit<, codes}
use Rattle.c_type.specs.Names.{Name}
use Rattle.c_type.specs.declared.Kind.TheVariants as kinds
use Rattle.c_type.specs.declared.TagKind.TheVariants.{Struct, Enum}
use Rattle.c_lex.specs.Tokens as k
use Rattle.c_tree.specs.declared.decl.Storage.TheVariants.{Auto, Register, Static, Extern}
use Rattle.c_tree.specs.declared.expr.AssignOp.TheVariants as a
use Rattle.c_tree.specs.declared.expr.BinaryOp.TheVariants as b
use Rattle.c_tree.specs.declared.expr.UnaryOp.TheVariants as u
use Rattle.c_tree.specs.TreeExpr as t
use Rattle.c_tree.specs.TreeDecl as td
use Rattle.c_tree.specs.TreeStmt as ts
use Rattle.c_tree.specs.TreeUnit as tu
use Rattle.c_grammar.specs.Words.{Unsigned, Char, Short, Long, Int, Void, tok, mark, word}
use Rattle.c_grammar.specs.WrittenType.{word_part, tag_part, name_part}
use Rattle.c_grammar.specs.WrittenExpr as w
use Rattle.c_grammar.specs.WrittenDeclr as dw
use Rattle.c_grammar.specs.WrittenSpecs as sw
use Rattle.c_grammar.specs.WrittenDecl as gw
use Rattle.c_grammar.specs.WrittenStmt as zw
use Rattle.c_grammar.specs.WrittenUnit as uw
use Rattle.c_grammar.specs.Reads.{ReadsTokens}

abbrev n_A : Name
n_A = codes "A"

abbrev n_B : Name
n_B = codes "B"

abbrev n_C : Name
n_C = codes "C"

abbrev n_D : Name
n_D = codes "D"

abbrev n_a : Name
n_a = codes "a"

abbrev n_b : Name
n_b = codes "b"

abbrev n_c : Name
n_c = codes "c"

abbrev n_d : Name
n_d = codes "d"

abbrev n_e : Name
n_e = codes "e"

abbrev n_f : Name
n_f = codes "f"

abbrev n_g : Name
n_g = codes "g"

abbrev n_h : Name
n_h = codes "h"

abbrev n_i : Name
n_i = codes "i"

abbrev n_j : Name
n_j = codes "j"

abbrev n_k : Name
n_k = codes "k"

abbrev n_m : Name
n_m = codes "m"

abbrev n_p : Name
n_p = codes "p"

abbrev n_s : Name
n_s = codes "s"

abbrev n_t : Name
n_t = codes "t"

abbrev n_t2 : Name
n_t2 = codes "t2"

abbrev n_u : Name
n_u = codes "u"

abbrev n_v : Name
n_v = codes "v"

abbrev n_x : Name
n_x = codes "x"

abbrev n_y : Name
n_y = codes "y"

abbrev n_z : Name
n_z = codes "z"

-- a unit may be empty
nothing : ReadsTokens
    ([])
    (record { exts = [] })
nothing = record {
  written = [];
  levelled = tt;
  plain_is = refl;
  tokens = refl;
  low = lit≤ tt;
  shallow = tt;
}

-- `int ( * f [ 3 ] ) ( ) ;`: an array of pointers to functions
array_of_pointers : ReadsTokens
    ((word 1 12) ∷ (mark 1 21) ∷ (mark 1 35) ∷ (tok 1 (k.name n_f)) ∷ (mark 1 23) ∷ (tok 1 (k.int 3 false)) ∷ (mark 1 24) ∷ (mark 1 22) ∷ (mark 1 21) ∷ (mark 1 22) ∷ (mark 1 29) ∷ [])
    (record { exts = (tu.object 1 (record { storage = None; types = Some (td.spec (t.num kinds.Int)) }) ((record { declr = td.function 1 (td.pointer 1 (td.array 1 (td.name 1 n_f) (Some (t.int 1 3 false)))) []; init = None }) ∷ [])) ∷ [] })
array_of_pointers = record {
  written = (uw.object (sw.more_parts (sw.typed (word_part 1 Int)) sw.no_parts) (record { first = (record { declr = dw.function (dw.bracket 1 (dw.pointer 1 (dw.array (dw.name 1 n_f) 1 (Some (w.int 1 3 false)) 1)) 1) 1 None 1; given = None }); others = [] }) 1) ∷ [];
  levelled = ((record { some = refl; storage = refl; no_typedef = refl; types = refl; parts = (tt, tt) }, (((refl, (refl, refl, (lit≤ tt, tt)), refl), tt), tt)), tt);
  plain_is = refl;
  tokens = refl;
  low = lit≤ tt;
  shallow = (lit≤ tt, (lit≤ tt, (lit≤ tt, (lit≤ tt, (lit≤ tt, (lit≤ tt, (lit≤ tt, (lit≤ tt, (lit≤ tt, (lit≤ tt, (lit≤ tt, tt)))))))))));
}

-- `char * a [ 2 ] , ( * b ) [ 2 ] ;`: a suffix binds tighter than `*`
pointer_to_array : ReadsTokens
    ((word 1 3) ∷ (mark 1 35) ∷ (tok 1 (k.name n_a)) ∷ (mark 1 23) ∷ (tok 1 (k.int 2 false)) ∷ (mark 1 24) ∷ (mark 1 28) ∷ (mark 1 21) ∷ (mark 1 35) ∷ (tok 1 (k.name n_b)) ∷ (mark 1 22) ∷ (mark 1 23) ∷ (tok 1 (k.int 2 false)) ∷ (mark 1 24) ∷ (mark 1 29) ∷ [])
    (record { exts = (tu.object 1 (record { storage = None; types = Some (td.spec (t.num kinds.Char)) }) ((record { declr = td.pointer 1 (td.array 1 (td.name 1 n_a) (Some (t.int 1 2 false))); init = None }) ∷ (record { declr = td.array 1 (td.pointer 1 (td.name 1 n_b)) (Some (t.int 1 2 false)); init = None }) ∷ [])) ∷ [] })
pointer_to_array = record {
  written = (uw.object (sw.more_parts (sw.typed (word_part 1 Char)) sw.no_parts) (record { first = (record { declr = dw.pointer 1 (dw.array (dw.name 1 n_a) 1 (Some (w.int 1 2 false)) 1); given = None }); others = (record { comma = 1; member = (record { declr = dw.array (dw.bracket 1 (dw.pointer 1 (dw.name 1 n_b)) 1) 1 (Some (w.int 1 2 false)) 1; given = None }) }) ∷ [] }) 1) ∷ [];
  levelled = ((record { some = refl; storage = refl; no_typedef = refl; types = refl; parts = (tt, tt) }, (((refl, refl, (lit≤ tt, tt)), tt), (((refl, refl, (lit≤ tt, tt)), tt), tt))), tt);
  plain_is = refl;
  tokens = refl;
  low = lit≤ tt;
  shallow = (lit≤ tt, (lit≤ tt, (lit≤ tt, (lit≤ tt, (lit≤ tt, (lit≤ tt, (lit≤ tt, (lit≤ tt, (lit≤ tt, (lit≤ tt, (lit≤ tt, (lit≤ tt, (lit≤ tt, (lit≤ tt, (lit≤ tt, tt)))))))))))))));
}

-- `long static unsigned int x ; short int y ; unsigned z ;`: words in any order
any_order : ReadsTokens
    ((word 1 13) ∷ (word 1 18) ∷ (word 1 22) ∷ (word 1 12) ∷ (tok 1 (k.name n_x)) ∷ (mark 1 29) ∷ (word 1 16) ∷ (word 1 12) ∷ (tok 1 (k.name n_y)) ∷ (mark 1 29) ∷ (word 1 22) ∷ (tok 1 (k.name n_z)) ∷ (mark 1 29) ∷ [])
    (record { exts = (tu.object 1 (record { storage = Some Static; types = Some (td.spec (t.num kinds.ULong)) }) ((record { declr = td.name 1 n_x; init = None }) ∷ [])) ∷ (tu.object 1 (record { storage = None; types = Some (td.spec (t.num kinds.Short)) }) ((record { declr = td.name 1 n_y; init = None }) ∷ [])) ∷ (tu.object 1 (record { storage = None; types = Some (td.spec (t.num kinds.UInt)) }) ((record { declr = td.name 1 n_z; init = None }) ∷ [])) ∷ [] })
any_order = record {
  written = (uw.object (sw.more_parts (sw.typed (word_part 1 Long)) (sw.more_parts (sw.storage 1 Static) (sw.more_parts (sw.typed (word_part 1 Unsigned)) (sw.more_parts (sw.typed (word_part 1 Int)) sw.no_parts)))) (record { first = (record { declr = dw.name 1 n_x; given = None }); others = [] }) 1) ∷ (uw.object (sw.more_parts (sw.typed (word_part 1 Short)) (sw.more_parts (sw.typed (word_part 1 Int)) sw.no_parts)) (record { first = (record { declr = dw.name 1 n_y; given = None }); others = [] }) 1) ∷ (uw.object (sw.more_parts (sw.typed (word_part 1 Unsigned)) sw.no_parts) (record { first = (record { declr = dw.name 1 n_z; given = None }); others = [] }) 1) ∷ [];
  levelled = ((record { some = refl; storage = refl; no_typedef = refl; types = refl; parts = (tt, (tt, (tt, tt))) }, ((refl, tt), tt)), ((record { some = refl; storage = refl; no_typedef = refl; types = refl; parts = (tt, (tt, tt)) }, ((refl, tt), tt)), ((record { some = refl; storage = refl; no_typedef = refl; types = refl; parts = (tt, tt) }, ((refl, tt), tt)), tt)));
  plain_is = refl;
  tokens = refl;
  low = lit≤ tt;
  shallow = (lit≤ tt, (lit≤ tt, (lit≤ tt, (lit≤ tt, (lit≤ tt, (lit≤ tt, (lit≤ tt, (lit≤ tt, (lit≤ tt, (lit≤ tt, (lit≤ tt, (lit≤ tt, (lit≤ tt, tt)))))))))))));
}

-- `extern x [ ] , g ( ) ; static y ;`: without types they mean int
no_types : ReadsTokens
    ((word 1 9) ∷ (tok 1 (k.name n_x)) ∷ (mark 1 23) ∷ (mark 1 24) ∷ (mark 1 28) ∷ (tok 1 (k.name n_g)) ∷ (mark 1 21) ∷ (mark 1 22) ∷ (mark 1 29) ∷ (word 1 18) ∷ (tok 1 (k.name n_y)) ∷ (mark 1 29) ∷ [])
    (record { exts = (tu.object 1 (record { storage = Some Extern; types = None }) ((record { declr = td.array 1 (td.name 1 n_x) None; init = None }) ∷ (record { declr = td.function 1 (td.name 1 n_g) []; init = None }) ∷ [])) ∷ (tu.object 1 (record { storage = Some Static; types = None }) ((record { declr = td.name 1 n_y; init = None }) ∷ [])) ∷ [] })
no_types = record {
  written = (uw.object (sw.more_parts (sw.storage 1 Extern) sw.no_parts) (record { first = (record { declr = dw.array (dw.name 1 n_x) 1 None 1; given = None }); others = (record { comma = 1; member = (record { declr = dw.function (dw.name 1 n_g) 1 None 1; given = None }) }) ∷ [] }) 1) ∷ (uw.object (sw.more_parts (sw.storage 1 Static) sw.no_parts) (record { first = (record { declr = dw.name 1 n_y; given = None }); others = [] }) 1) ∷ [];
  levelled = ((record { some = refl; storage = refl; no_typedef = refl; types = refl; parts = tt }, (((refl, refl, tt), tt), (((refl, refl, refl), tt), tt))), ((record { some = refl; storage = refl; no_typedef = refl; types = refl; parts = tt }, ((refl, tt), tt)), tt));
  plain_is = refl;
  tokens = refl;
  low = lit≤ tt;
  shallow = (lit≤ tt, (lit≤ tt, (lit≤ tt, (lit≤ tt, (lit≤ tt, (lit≤ tt, (lit≤ tt, (lit≤ tt, (lit≤ tt, (lit≤ tt, (lit≤ tt, (lit≤ tt, tt))))))))))));
}

-- `typedef int t , * u ( ) ; t a ; struct t { u b ; } ; struct t * t2 ; enum t ;`: a typedef name from its declaration on, which may also be a tag
typedef_name : ReadsTokens
    ((word 1 21) ∷ (word 1 12) ∷ (tok 1 (k.name n_t)) ∷ (mark 1 28) ∷ (mark 1 35) ∷ (tok 1 (k.name n_u)) ∷ (mark 1 21) ∷ (mark 1 22) ∷ (mark 1 29) ∷ (tok 1 (k.name n_t)) ∷ (tok 1 (k.name n_a)) ∷ (mark 1 29) ∷ (word 1 19) ∷ (tok 1 (k.name n_t)) ∷ (mark 1 25) ∷ (tok 1 (k.name n_u)) ∷ (tok 1 (k.name n_b)) ∷ (mark 1 29) ∷ (mark 1 26) ∷ (mark 1 29) ∷ (word 1 19) ∷ (tok 1 (k.name n_t)) ∷ (mark 1 35) ∷ (tok 1 (k.name n_t2)) ∷ (mark 1 29) ∷ (word 1 8) ∷ (tok 1 (k.name n_t)) ∷ (mark 1 29) ∷ [])
    (record { exts = (tu.typedef 1 (Some (td.spec (t.num kinds.Int))) ((td.name 1 n_t) ∷ (td.pointer 1 (td.function 1 (td.name 1 n_u) [])) ∷ [])) ∷ (tu.object 1 (record { storage = None; types = Some (td.spec (t.named n_t)) }) ((record { declr = td.name 1 n_a; init = None }) ∷ [])) ∷ (tu.tag_only 1 (td.body (td.struct 1 (Some n_t) (td.more_mems (td.mem 1 (td.spec (t.named n_u)) ((td.name 1 n_b) ∷ [])) td.no_mems)))) ∷ (tu.object 1 (record { storage = None; types = Some (td.spec (t.tag (record { line = 1; kind = Struct; name = n_t }))) }) ((record { declr = td.pointer 1 (td.name 1 n_t2); init = None }) ∷ [])) ∷ (tu.tag_only 1 (td.ref (record { line = 1; kind = Enum; name = n_t }))) ∷ [] })
typedef_name = record {
  written = (uw.typedef (sw.more_parts (sw.typedef 1) (sw.more_parts (sw.typed (word_part 1 Int)) sw.no_parts)) (record { first = (dw.name 1 n_t); others = (record { comma = 1; member = (dw.pointer 1 (dw.function (dw.name 1 n_u) 1 None 1)) }) ∷ [] }) 1) ∷ (uw.object (sw.more_parts (sw.typed (name_part 1 n_t)) sw.no_parts) (record { first = (record { declr = dw.name 1 n_a; given = None }); others = [] }) 1) ∷ (uw.tag_only (gw.body (sw.struct 1 (Some (record { line = 1; name = n_t })) 1 (sw.last_mem (sw.mem (sw.more_parts (sw.typed (name_part 1 n_u)) sw.no_parts) (record { first = (dw.name 1 n_b); others = [] }) 1)) 1)) 1) ∷ (uw.object (sw.more_parts (sw.typed (tag_part 1 Struct 1 n_t)) sw.no_parts) (record { first = (record { declr = dw.pointer 1 (dw.name 1 n_t2); given = None }); others = [] }) 1) ∷ (uw.tag_only (gw.ref 1 Enum 1 n_t) 1) ∷ [];
  levelled = ((record { no_storage = refl; one_typedef = refl; types = refl; parts = (tt, tt) }, (refl, ((refl, refl, refl), tt))), ((record { some = refl; storage = refl; no_typedef = refl; types = refl; parts = (refl, tt) }, ((refl, tt), tt)), ((refl, refl, refl, (refl, tt), (refl, tt)), ((record { some = refl; storage = refl; no_typedef = refl; types = refl; parts = (refl, tt) }, ((refl, tt), tt)), (refl, tt)))));
  plain_is = refl;
  tokens = refl;
  low = lit≤ tt;
  shallow = (lit≤ tt, (lit≤ tt, (lit≤ tt, (lit≤ tt, (lit≤ tt, (lit≤ tt, (lit≤ tt, (lit≤ tt, (lit≤ tt, (lit≤ tt, (lit≤ tt, (lit≤ tt, (lit≤ tt, (lit≤ tt, (lit≤ tt, (lit≤ tt, (lit≤ tt, (lit≤ tt, (lit≤ tt, (lit≤ tt, (lit≤ tt, (lit≤ tt, (lit≤ tt, (lit≤ tt, (lit≤ tt, (lit≤ tt, (lit≤ tt, (lit≤ tt, tt))))))))))))))))))))))))))));
}

-- `typedef a , b [ sizeof ( a ) ] ; unsigned typedef c ;`: a typedef name only behind its own declaration
typedef_inside : ReadsTokens
    ((word 1 21) ∷ (tok 1 (k.name n_a)) ∷ (mark 1 28) ∷ (tok 1 (k.name n_b)) ∷ (mark 1 23) ∷ (word 1 17) ∷ (mark 1 21) ∷ (tok 1 (k.name n_a)) ∷ (mark 1 22) ∷ (mark 1 24) ∷ (mark 1 29) ∷ (word 1 22) ∷ (word 1 21) ∷ (tok 1 (k.name n_c)) ∷ (mark 1 29) ∷ [])
    (record { exts = (tu.typedef 1 None ((td.name 1 n_a) ∷ (td.array 1 (td.name 1 n_b) (Some (t.size_of 1 (t.name 1 n_a)))) ∷ [])) ∷ (tu.typedef 1 (Some (td.spec (t.num kinds.UInt))) ((td.name 1 n_c) ∷ [])) ∷ [] })
typedef_inside = record {
  written = (uw.typedef (sw.more_parts (sw.typedef 1) sw.no_parts) (record { first = (dw.name 1 n_a); others = (record { comma = 1; member = (dw.array (dw.name 1 n_b) 1 (Some (w.size_of 1 (w.bracket 1 (w.name 1 n_a) 1))) 1) }) ∷ [] }) 1) ∷ (uw.typedef (sw.more_parts (sw.typed (word_part 1 Unsigned)) (sw.more_parts (sw.typedef 1) sw.no_parts)) (record { first = (dw.name 1 n_c); others = [] }) 1) ∷ [];
  levelled = ((record { no_storage = refl; one_typedef = refl; types = refl; parts = tt }, (refl, ((refl, refl, (lit≤ tt, (refl, lit≤ tt, refl))), tt))), ((record { no_storage = refl; one_typedef = refl; types = refl; parts = (tt, tt) }, (refl, tt)), tt));
  plain_is = refl;
  tokens = refl;
  low = lit≤ tt;
  shallow = (lit≤ tt, (lit≤ tt, (lit≤ tt, (lit≤ tt, (lit≤ tt, (lit≤ tt, (lit≤ tt, (lit≤ tt, (lit≤ tt, (lit≤ tt, (lit≤ tt, (lit≤ tt, (lit≤ tt, (lit≤ tt, (lit≤ tt, tt)))))))))))))));
}

-- `struct { int a , * b ; struct s { char c ; } d [ 2 ] ; } static x = { 1 , { 2 , 3 , } , & y } ;`: bodies in bodies, a storage word behind, an initialiser with a last comma
bodies : ReadsTokens
    ((word 1 19) ∷ (mark 1 25) ∷ (word 1 12) ∷ (tok 1 (k.name n_a)) ∷ (mark 1 28) ∷ (mark 1 35) ∷ (tok 1 (k.name n_b)) ∷ (mark 1 29) ∷ (word 1 19) ∷ (tok 1 (k.name n_s)) ∷ (mark 1 25) ∷ (word 1 3) ∷ (tok 1 (k.name n_c)) ∷ (mark 1 29) ∷ (mark 1 26) ∷ (tok 1 (k.name n_d)) ∷ (mark 1 23) ∷ (tok 1 (k.int 2 false)) ∷ (mark 1 24) ∷ (mark 1 29) ∷ (mark 1 26) ∷ (word 1 18) ∷ (tok 1 (k.name n_x)) ∷ (mark 1 32) ∷ (mark 1 25) ∷ (tok 1 (k.int 1 false)) ∷ (mark 1 28) ∷ (mark 1 25) ∷ (tok 1 (k.int 2 false)) ∷ (mark 1 28) ∷ (tok 1 (k.int 3 false)) ∷ (mark 1 28) ∷ (mark 1 26) ∷ (mark 1 28) ∷ (mark 1 38) ∷ (tok 1 (k.name n_y)) ∷ (mark 1 26) ∷ (mark 1 29) ∷ [])
    (record { exts = (tu.object 1 (record { storage = Some Static; types = Some (td.def (td.struct 1 None (td.more_mems (td.mem 1 (td.spec (t.num kinds.Int)) ((td.name 1 n_a) ∷ (td.pointer 1 (td.name 1 n_b)) ∷ [])) (td.more_mems (td.mem 1 (td.def (td.struct 1 (Some n_s) (td.more_mems (td.mem 1 (td.spec (t.num kinds.Char)) ((td.name 1 n_c) ∷ [])) td.no_mems))) ((td.array 1 (td.name 1 n_d) (Some (t.int 1 2 false))) ∷ [])) td.no_mems)))) }) ((record { declr = td.name 1 n_x; init = Some (td.group 1 (td.more_inits (td.single (t.int 1 1 false)) (td.more_inits (td.group 1 (td.more_inits (td.single (t.int 1 2 false)) (td.more_inits (td.single (t.int 1 3 false)) td.no_inits))) (td.more_inits (td.single (t.unary 1 u.Address (t.name 1 n_y))) td.no_inits)))) }) ∷ [])) ∷ [] })
bodies = record {
  written = (uw.object (sw.more_parts (sw.tagged (sw.struct 1 None 1 (sw.more_mems (sw.mem (sw.more_parts (sw.typed (word_part 1 Int)) sw.no_parts) (record { first = (dw.name 1 n_a); others = (record { comma = 1; member = (dw.pointer 1 (dw.name 1 n_b)) }) ∷ [] }) 1) (sw.last_mem (sw.mem (sw.more_parts (sw.tagged (sw.struct 1 (Some (record { line = 1; name = n_s })) 1 (sw.last_mem (sw.mem (sw.more_parts (sw.typed (word_part 1 Char)) sw.no_parts) (record { first = (dw.name 1 n_c); others = [] }) 1)) 1)) sw.no_parts) (record { first = (dw.array (dw.name 1 n_d) 1 (Some (w.int 1 2 false)) 1); others = [] }) 1))) 1)) (sw.more_parts (sw.storage 1 Static) sw.no_parts)) (record { first = (record { declr = dw.name 1 n_x; given = Some (record { line = 1; init = dw.group 1 (dw.single (w.int 1 1 false)) (dw.more_inits 1 (dw.group 1 (dw.single (w.int 1 2 false)) (dw.more_inits 1 (dw.single (w.int 1 3 false)) dw.no_inits) (Some 1) 1) (dw.more_inits 1 (dw.single (w.unary 1 u.Address (w.name 1 n_y))) dw.no_inits)) None 1 }) }); others = [] }) 1) ∷ [];
  levelled = ((record { some = refl; storage = refl; no_typedef = refl; types = refl; parts = (((refl, refl, refl, (tt, tt), (refl, (refl, tt))), (refl, refl, refl, ((refl, refl, refl, (tt, tt), (refl, tt)), tt), ((refl, refl, (lit≤ tt, tt)), tt))), tt) }, ((refl, ((lit≤ tt, tt), (((lit≤ tt, tt), ((lit≤ tt, tt), tt)), ((lit≤ tt, (lit≤ tt, refl)), tt)))), tt)), tt);
  plain_is = refl;
  tokens = refl;
  low = lit≤ tt;
  shallow = (lit≤ tt, (lit≤ tt, (lit≤ tt, (lit≤ tt, (lit≤ tt, (lit≤ tt, (lit≤ tt, (lit≤ tt, (lit≤ tt, (lit≤ tt, (lit≤ tt, (lit≤ tt, (lit≤ tt, (lit≤ tt, (lit≤ tt, (lit≤ tt, (lit≤ tt, (lit≤ tt, (lit≤ tt, (lit≤ tt, (lit≤ tt, (lit≤ tt, (lit≤ tt, (lit≤ tt, (lit≤ tt, (lit≤ tt, (lit≤ tt, (lit≤ tt, (lit≤ tt, (lit≤ tt, (lit≤ tt, (lit≤ tt, (lit≤ tt, (lit≤ tt, (lit≤ tt, (lit≤ tt, (lit≤ tt, (lit≤ tt, tt))))))))))))))))))))))))))))))))))))));
}

-- `enum e { A , B = 1 ? 2 : 3 , C } ; enum { D } v = D ;`: enumerators
enumerators : ReadsTokens
    ((word 1 8) ∷ (tok 1 (k.name n_e)) ∷ (mark 1 25) ∷ (tok 1 (k.name n_A)) ∷ (mark 1 28) ∷ (tok 1 (k.name n_B)) ∷ (mark 1 32) ∷ (tok 1 (k.int 1 false)) ∷ (mark 1 31) ∷ (tok 1 (k.int 2 false)) ∷ (mark 1 30) ∷ (tok 1 (k.int 3 false)) ∷ (mark 1 28) ∷ (tok 1 (k.name n_C)) ∷ (mark 1 26) ∷ (mark 1 29) ∷ (word 1 8) ∷ (mark 1 25) ∷ (tok 1 (k.name n_D)) ∷ (mark 1 26) ∷ (tok 1 (k.name n_v)) ∷ (mark 1 32) ∷ (tok 1 (k.name n_D)) ∷ (mark 1 29) ∷ [])
    (record { exts = (tu.tag_only 1 (td.body (td.enum 1 (Some n_e) ((record { line = 1; name = n_A; value = None }) ∷ (record { line = 1; name = n_B; value = Some (t.choice 1 (t.int 1 1 false) (t.int 1 2 false) (t.int 1 3 false)) }) ∷ (record { line = 1; name = n_C; value = None }) ∷ [])))) ∷ (tu.object 1 (record { storage = None; types = Some (td.def (td.enum 1 None ((record { line = 1; name = n_D; value = None }) ∷ []))) }) ((record { declr = td.name 1 n_v; init = Some (td.single (t.name 1 n_D)) }) ∷ [])) ∷ [] })
enumerators = record {
  written = (uw.tag_only (gw.body (sw.enum 1 (Some (record { line = 1; name = n_e })) 1 (record { first = (record { line = 1; name = n_A; value = None }); others = (record { comma = 1; member = (record { line = 1; name = n_B; value = Some (record { line = 1; value = w.choice (w.int 1 1 false) 1 (w.int 1 2 false) 1 (w.int 1 3 false) }) }) }) ∷ (record { comma = 1; member = (record { line = 1; name = n_C; value = None }) }) ∷ [] }) 1)) 1) ∷ (uw.object (sw.more_parts (sw.tagged (sw.enum 1 None 1 (record { first = (record { line = 1; name = n_D; value = None }); others = [] }) 1)) sw.no_parts) (record { first = (record { declr = dw.name 1 n_v; given = Some (record { line = 1; init = dw.single (w.name 1 n_D) }) }); others = [] }) 1) ∷ [];
  levelled = (((refl, tt), ((refl, (lit≤ tt, (lit≤ tt, lit≤ tt, tt, tt, tt))), ((refl, tt), tt))), ((record { some = refl; storage = refl; no_typedef = refl; types = refl; parts = (((refl, tt), tt), tt) }, ((refl, (lit≤ tt, refl)), tt)), tt));
  plain_is = refl;
  tokens = refl;
  low = lit≤ tt;
  shallow = (lit≤ tt, (lit≤ tt, (lit≤ tt, (lit≤ tt, (lit≤ tt, (lit≤ tt, (lit≤ tt, (lit≤ tt, (lit≤ tt, (lit≤ tt, (lit≤ tt, (lit≤ tt, (lit≤ tt, (lit≤ tt, (lit≤ tt, (lit≤ tt, (lit≤ tt, (lit≤ tt, (lit≤ tt, (lit≤ tt, (lit≤ tt, (lit≤ tt, (lit≤ tt, (lit≤ tt, tt))))))))))))))))))))))));
}

-- `f ( a , b ) register char * a ; struct s { int m ; } * b ; { return a [ b -> m ] ; }`: a function with the declarations of its parameters
old_head : ReadsTokens
    ((tok 1 (k.name n_f)) ∷ (mark 1 21) ∷ (tok 1 (k.name n_a)) ∷ (mark 1 28) ∷ (tok 1 (k.name n_b)) ∷ (mark 1 22) ∷ (word 1 14) ∷ (word 1 3) ∷ (mark 1 35) ∷ (tok 1 (k.name n_a)) ∷ (mark 1 29) ∷ (word 1 19) ∷ (tok 1 (k.name n_s)) ∷ (mark 1 25) ∷ (word 1 12) ∷ (tok 1 (k.name n_m)) ∷ (mark 1 29) ∷ (mark 1 26) ∷ (mark 1 35) ∷ (tok 1 (k.name n_b)) ∷ (mark 1 29) ∷ (mark 1 25) ∷ (word 1 15) ∷ (tok 1 (k.name n_a)) ∷ (mark 1 23) ∷ (tok 1 (k.name n_b)) ∷ (mark 1 4) ∷ (tok 1 (k.name n_m)) ∷ (mark 1 24) ∷ (mark 1 29) ∷ (mark 1 26) ∷ [])
    (record { exts = (tu.func 1 None (td.function 1 (td.name 1 n_f) (n_a ∷ n_b ∷ [])) ((record { line = 1; register = true; types = td.spec (t.num kinds.Char); declrs = (td.pointer 1 (td.name 1 n_a)) ∷ [] }) ∷ (record { line = 1; register = false; types = td.def (td.struct 1 (Some n_s) (td.more_mems (td.mem 1 (td.spec (t.num kinds.Int)) ((td.name 1 n_m) ∷ [])) td.no_mems)); declrs = (td.pointer 1 (td.name 1 n_b)) ∷ [] }) ∷ []) (record { line = 1; decls = []; stmts = ts.more_stmts (ts.return 1 (Some (t.index 1 (t.name 1 n_a) (t.arrow 1 (t.name 1 n_b) n_m)))) ts.no_stmts; close_line = 1 })) ∷ [] })
old_head = record {
  written = (uw.func (record { parts = sw.no_parts; declr = dw.function (dw.name 1 n_f) 1 (Some (record { first = (record { line = 1; name = n_a }); others = (record { comma = 1; member = (record { line = 1; name = n_b }) }) ∷ [] })) 1; params = (record { register = Some 1; parts = sw.more_parts (sw.typed (word_part 1 Char)) sw.no_parts; declrs = record { first = (dw.pointer 1 (dw.name 1 n_a)); others = [] }; line = 1 }) ∷ (record { register = None; parts = sw.more_parts (sw.tagged (sw.struct 1 (Some (record { line = 1; name = n_s })) 1 (sw.last_mem (sw.mem (sw.more_parts (sw.typed (word_part 1 Int)) sw.no_parts) (record { first = (dw.name 1 n_m); others = [] }) 1)) 1)) sw.no_parts; declrs = record { first = (dw.pointer 1 (dw.name 1 n_b)); others = [] }; line = 1 }) ∷ [] }) (record { line = 1; decls = []; stmts = zw.more_stmts (zw.return 1 (Some (w.index (w.name 1 n_a) 1 (w.arrow (w.name 1 n_b) 1 1 n_m) 1)) 1) zw.no_stmts; close_line = 1 })) ∷ [];
  levelled = (((tt, (refl, (refl, (refl, tt))), ((record { no_storage = refl; no_typedef = refl; types = refl; parts = (tt, tt) }, (refl, tt)), ((record { no_storage = refl; no_typedef = refl; types = refl; parts = ((refl, refl, refl, (tt, tt), (refl, tt)), tt) }, (refl, tt)), tt))), (tt, ((lit≤ tt, (lit≤ tt, refl, (refl, lit≤ tt, refl))), tt))), tt);
  plain_is = refl;
  tokens = refl;
  low = lit≤ tt;
  shallow = (lit≤ tt, (lit≤ tt, (lit≤ tt, (lit≤ tt, (lit≤ tt, (lit≤ tt, (lit≤ tt, (lit≤ tt, (lit≤ tt, (lit≤ tt, (lit≤ tt, (lit≤ tt, (lit≤ tt, (lit≤ tt, (lit≤ tt, (lit≤ tt, (lit≤ tt, (lit≤ tt, (lit≤ tt, (lit≤ tt, (lit≤ tt, (lit≤ tt, (lit≤ tt, (lit≤ tt, (lit≤ tt, (lit≤ tt, (lit≤ tt, (lit≤ tt, (lit≤ tt, (lit≤ tt, (lit≤ tt, tt)))))))))))))))))))))))))))))));
}

-- `static int * g ( ) { } void ( ( h ) ( a ) ) { } int ( * k ( a , b ) ) [ 3 ] { }`: the suffix next to the name has the parameters
heads : ReadsTokens
    ((word 1 18) ∷ (word 1 12) ∷ (mark 1 35) ∷ (tok 1 (k.name n_g)) ∷ (mark 1 21) ∷ (mark 1 22) ∷ (mark 1 25) ∷ (mark 1 26) ∷ (word 1 23) ∷ (mark 1 21) ∷ (mark 1 21) ∷ (tok 1 (k.name n_h)) ∷ (mark 1 22) ∷ (mark 1 21) ∷ (tok 1 (k.name n_a)) ∷ (mark 1 22) ∷ (mark 1 22) ∷ (mark 1 25) ∷ (mark 1 26) ∷ (word 1 12) ∷ (mark 1 21) ∷ (mark 1 35) ∷ (tok 1 (k.name n_k)) ∷ (mark 1 21) ∷ (tok 1 (k.name n_a)) ∷ (mark 1 28) ∷ (tok 1 (k.name n_b)) ∷ (mark 1 22) ∷ (mark 1 22) ∷ (mark 1 23) ∷ (tok 1 (k.int 3 false)) ∷ (mark 1 24) ∷ (mark 1 25) ∷ (mark 1 26) ∷ [])
    (record { exts = (tu.func 1 (Some (record { storage = Some Static; types = Some (td.spec (t.num kinds.Int)) })) (td.pointer 1 (td.function 1 (td.name 1 n_g) [])) [] (record { line = 1; decls = []; stmts = ts.no_stmts; close_line = 1 })) ∷ (tu.func 1 (Some (record { storage = None; types = Some (td.spec t.void) })) (td.function 1 (td.name 1 n_h) (n_a ∷ [])) [] (record { line = 1; decls = []; stmts = ts.no_stmts; close_line = 1 })) ∷ (tu.func 1 (Some (record { storage = None; types = Some (td.spec (t.num kinds.Int)) })) (td.array 1 (td.pointer 1 (td.function 1 (td.name 1 n_k) (n_a ∷ n_b ∷ []))) (Some (t.int 1 3 false))) [] (record { line = 1; decls = []; stmts = ts.no_stmts; close_line = 1 })) ∷ [] })
heads = record {
  written = (uw.func (record { parts = sw.more_parts (sw.storage 1 Static) (sw.more_parts (sw.typed (word_part 1 Int)) sw.no_parts); declr = dw.pointer 1 (dw.function (dw.name 1 n_g) 1 None 1); params = [] }) (record { line = 1; decls = []; stmts = zw.no_stmts; close_line = 1 })) ∷ (uw.func (record { parts = sw.more_parts (sw.typed (word_part 1 Void)) sw.no_parts; declr = dw.bracket 1 (dw.function (dw.bracket 1 (dw.name 1 n_h) 1) 1 (Some (record { first = (record { line = 1; name = n_a }); others = [] })) 1) 1; params = [] }) (record { line = 1; decls = []; stmts = zw.no_stmts; close_line = 1 })) ∷ (uw.func (record { parts = sw.more_parts (sw.typed (word_part 1 Int)) sw.no_parts; declr = dw.array (dw.bracket 1 (dw.pointer 1 (dw.function (dw.name 1 n_k) 1 (Some (record { first = (record { line = 1; name = n_a }); others = (record { comma = 1; member = (record { line = 1; name = n_b }) }) ∷ [] })) 1)) 1) 1 (Some (w.int 1 3 false)) 1; params = [] }) (record { line = 1; decls = []; stmts = zw.no_stmts; close_line = 1 })) ∷ [];
  levelled = (((record { some = refl; storage = refl; no_typedef = refl; types = refl; parts = (tt, tt) }, (refl, tt), tt), (tt, tt)), (((record { some = refl; storage = refl; no_typedef = refl; types = refl; parts = (tt, tt) }, (refl, (refl, tt)), tt), (tt, tt)), (((record { some = refl; storage = refl; no_typedef = refl; types = refl; parts = (tt, tt) }, (refl, (refl, (refl, (refl, tt))), (lit≤ tt, tt)), tt), (tt, tt)), tt)));
  plain_is = refl;
  tokens = refl;
  low = lit≤ tt;
  shallow = (lit≤ tt, (lit≤ tt, (lit≤ tt, (lit≤ tt, (lit≤ tt, (lit≤ tt, (lit≤ tt, (lit≤ tt, (lit≤ tt, (lit≤ tt, (lit≤ tt, (lit≤ tt, (lit≤ tt, (lit≤ tt, (lit≤ tt, (lit≤ tt, (lit≤ tt, (lit≤ tt, (lit≤ tt, (lit≤ tt, (lit≤ tt, (lit≤ tt, (lit≤ tt, (lit≤ tt, (lit≤ tt, (lit≤ tt, (lit≤ tt, (lit≤ tt, (lit≤ tt, (lit≤ tt, (lit≤ tt, (lit≤ tt, (lit≤ tt, (lit≤ tt, tt))))))))))))))))))))))))))))))))));
}

-- `f ( ) { if ( a ) if ( b ) c ; else d ; if ( a ) { if ( b ) c ; } else d ; }`: an `else` belongs to the nearest `if`
nearest : ReadsTokens
    ((tok 1 (k.name n_f)) ∷ (mark 1 21) ∷ (mark 1 22) ∷ (mark 1 25) ∷ (word 1 11) ∷ (mark 1 21) ∷ (tok 1 (k.name n_a)) ∷ (mark 1 22) ∷ (word 1 11) ∷ (mark 1 21) ∷ (tok 1 (k.name n_b)) ∷ (mark 1 22) ∷ (tok 1 (k.name n_c)) ∷ (mark 1 29) ∷ (word 1 7) ∷ (tok 1 (k.name n_d)) ∷ (mark 1 29) ∷ (word 1 11) ∷ (mark 1 21) ∷ (tok 1 (k.name n_a)) ∷ (mark 1 22) ∷ (mark 1 25) ∷ (word 1 11) ∷ (mark 1 21) ∷ (tok 1 (k.name n_b)) ∷ (mark 1 22) ∷ (tok 1 (k.name n_c)) ∷ (mark 1 29) ∷ (mark 1 26) ∷ (word 1 7) ∷ (tok 1 (k.name n_d)) ∷ (mark 1 29) ∷ (mark 1 26) ∷ [])
    (record { exts = (tu.func 1 None (td.function 1 (td.name 1 n_f) []) [] (record { line = 1; decls = []; stmts = ts.more_stmts (ts.if_only 1 (t.name 1 n_a) (ts.if_else 1 (t.name 1 n_b) (ts.expr 1 (t.name 1 n_c)) (ts.expr 1 (t.name 1 n_d)))) (ts.more_stmts (ts.if_else 1 (t.name 1 n_a) (ts.block 1 [] (ts.more_stmts (ts.if_only 1 (t.name 1 n_b) (ts.expr 1 (t.name 1 n_c))) ts.no_stmts) 1) (ts.expr 1 (t.name 1 n_d))) ts.no_stmts); close_line = 1 })) ∷ [] })
nearest = record {
  written = (uw.func (record { parts = sw.no_parts; declr = dw.function (dw.name 1 n_f) 1 None 1; params = [] }) (record { line = 1; decls = []; stmts = zw.more_stmts (zw.if_only 1 1 (w.name 1 n_a) 1 (zw.if_else 1 1 (w.name 1 n_b) 1 (zw.expr (w.name 1 n_c) 1) 1 (zw.expr (w.name 1 n_d) 1))) (zw.more_stmts (zw.if_else 1 1 (w.name 1 n_a) 1 (zw.block 1 [] (zw.more_stmts (zw.if_only 1 1 (w.name 1 n_b) 1 (zw.expr (w.name 1 n_c) 1)) zw.no_stmts) 1) 1 (zw.expr (w.name 1 n_d) 1)) zw.no_stmts); close_line = 1 })) ∷ [];
  levelled = (((tt, (refl, tt), tt), (tt, (((lit≤ tt, refl), (refl, (lit≤ tt, refl), (lit≤ tt, refl), (lit≤ tt, refl))), ((refl, (lit≤ tt, refl), (tt, (((lit≤ tt, refl), (lit≤ tt, refl)), tt)), (lit≤ tt, refl)), tt)))), tt);
  plain_is = refl;
  tokens = refl;
  low = lit≤ tt;
  shallow = (lit≤ tt, (lit≤ tt, (lit≤ tt, (lit≤ tt, (lit≤ tt, (lit≤ tt, (lit≤ tt, (lit≤ tt, (lit≤ tt, (lit≤ tt, (lit≤ tt, (lit≤ tt, (lit≤ tt, (lit≤ tt, (lit≤ tt, (lit≤ tt, (lit≤ tt, (lit≤ tt, (lit≤ tt, (lit≤ tt, (lit≤ tt, (lit≤ tt, (lit≤ tt, (lit≤ tt, (lit≤ tt, (lit≤ tt, (lit≤ tt, (lit≤ tt, (lit≤ tt, (lit≤ tt, (lit≤ tt, (lit≤ tt, (lit≤ tt, tt)))))))))))))))))))))))))))))))));
}

-- `f ( ) { if ( a ) while ( b ) for ( ; ; ) if ( c ) d ; else ; else e ; }`: also through loops
nearest_of_loops : ReadsTokens
    ((tok 1 (k.name n_f)) ∷ (mark 1 21) ∷ (mark 1 22) ∷ (mark 1 25) ∷ (word 1 11) ∷ (mark 1 21) ∷ (tok 1 (k.name n_a)) ∷ (mark 1 22) ∷ (word 1 24) ∷ (mark 1 21) ∷ (tok 1 (k.name n_b)) ∷ (mark 1 22) ∷ (word 1 10) ∷ (mark 1 21) ∷ (mark 1 29) ∷ (mark 1 29) ∷ (mark 1 22) ∷ (word 1 11) ∷ (mark 1 21) ∷ (tok 1 (k.name n_c)) ∷ (mark 1 22) ∷ (tok 1 (k.name n_d)) ∷ (mark 1 29) ∷ (word 1 7) ∷ (mark 1 29) ∷ (word 1 7) ∷ (tok 1 (k.name n_e)) ∷ (mark 1 29) ∷ (mark 1 26) ∷ [])
    (record { exts = (tu.func 1 None (td.function 1 (td.name 1 n_f) []) [] (record { line = 1; decls = []; stmts = ts.more_stmts (ts.if_else 1 (t.name 1 n_a) (ts.while 1 (t.name 1 n_b) (ts.for 1 None None None (ts.if_else 1 (t.name 1 n_c) (ts.expr 1 (t.name 1 n_d)) (ts.empty 1)))) (ts.expr 1 (t.name 1 n_e))) ts.no_stmts; close_line = 1 })) ∷ [] })
nearest_of_loops = record {
  written = (uw.func (record { parts = sw.no_parts; declr = dw.function (dw.name 1 n_f) 1 None 1; params = [] }) (record { line = 1; decls = []; stmts = zw.more_stmts (zw.if_else 1 1 (w.name 1 n_a) 1 (zw.while 1 1 (w.name 1 n_b) 1 (zw.for 1 1 None 1 None 1 None 1 (zw.if_else 1 1 (w.name 1 n_c) 1 (zw.expr (w.name 1 n_d) 1) 1 (zw.empty 1)))) 1 (zw.expr (w.name 1 n_e) 1)) zw.no_stmts; close_line = 1 })) ∷ [];
  levelled = (((tt, (refl, tt), tt), (tt, ((refl, (lit≤ tt, refl), ((lit≤ tt, refl), (tt, tt, tt, (refl, (lit≤ tt, refl), (lit≤ tt, refl), tt))), (lit≤ tt, refl)), tt))), tt);
  plain_is = refl;
  tokens = refl;
  low = lit≤ tt;
  shallow = (lit≤ tt, (lit≤ tt, (lit≤ tt, (lit≤ tt, (lit≤ tt, (lit≤ tt, (lit≤ tt, (lit≤ tt, (lit≤ tt, (lit≤ tt, (lit≤ tt, (lit≤ tt, (lit≤ tt, (lit≤ tt, (lit≤ tt, (lit≤ tt, (lit≤ tt, (lit≤ tt, (lit≤ tt, (lit≤ tt, (lit≤ tt, (lit≤ tt, (lit≤ tt, (lit≤ tt, (lit≤ tt, (lit≤ tt, (lit≤ tt, (lit≤ tt, (lit≤ tt, tt)))))))))))))))))))))))))))));
}

-- `f ( ) { for ( a ; b ; c , d ) continue ; for ( ; ; ) break ; do ; while ( a ) ; return ; }`: loops and jumps
loops : ReadsTokens
    ((tok 1 (k.name n_f)) ∷ (mark 1 21) ∷ (mark 1 22) ∷ (mark 1 25) ∷ (word 1 10) ∷ (mark 1 21) ∷ (tok 1 (k.name n_a)) ∷ (mark 1 29) ∷ (tok 1 (k.name n_b)) ∷ (mark 1 29) ∷ (tok 1 (k.name n_c)) ∷ (mark 1 28) ∷ (tok 1 (k.name n_d)) ∷ (mark 1 22) ∷ (word 1 4) ∷ (mark 1 29) ∷ (word 1 10) ∷ (mark 1 21) ∷ (mark 1 29) ∷ (mark 1 29) ∷ (mark 1 22) ∷ (word 1 1) ∷ (mark 1 29) ∷ (word 1 6) ∷ (mark 1 29) ∷ (word 1 24) ∷ (mark 1 21) ∷ (tok 1 (k.name n_a)) ∷ (mark 1 22) ∷ (mark 1 29) ∷ (word 1 15) ∷ (mark 1 29) ∷ (mark 1 26) ∷ [])
    (record { exts = (tu.func 1 None (td.function 1 (td.name 1 n_f) []) [] (record { line = 1; decls = []; stmts = ts.more_stmts (ts.for 1 (Some (t.name 1 n_a)) (Some (t.name 1 n_b)) (Some (t.comma 1 (t.name 1 n_c) (t.name 1 n_d))) (ts.continue 1)) (ts.more_stmts (ts.for 1 None None None (ts.break 1)) (ts.more_stmts (ts.do_while 1 (ts.empty 1) 1 (t.name 1 n_a)) (ts.more_stmts (ts.return 1 None) ts.no_stmts))); close_line = 1 })) ∷ [] })
loops = record {
  written = (uw.func (record { parts = sw.no_parts; declr = dw.function (dw.name 1 n_f) 1 None 1; params = [] }) (record { line = 1; decls = []; stmts = zw.more_stmts (zw.for 1 1 (Some (w.name 1 n_a)) 1 (Some (w.name 1 n_b)) 1 (Some (w.comma (w.name 1 n_c) 1 (w.name 1 n_d))) 1 (zw.continue 1 1)) (zw.more_stmts (zw.for 1 1 None 1 None 1 None 1 (zw.break 1 1)) (zw.more_stmts (zw.do_while 1 (zw.empty 1) 1 1 (w.name 1 n_a) 1 1) (zw.more_stmts (zw.return 1 None 1) zw.no_stmts))); close_line = 1 })) ∷ [];
  levelled = (((tt, (refl, tt), tt), (tt, (((lit≤ tt, refl), (lit≤ tt, refl), (lit≤ tt, (lit≤ tt, lit≤ tt, refl, refl)), tt), ((tt, tt, tt, tt), ((tt, (lit≤ tt, refl)), (tt, tt)))))), tt);
  plain_is = refl;
  tokens = refl;
  low = lit≤ tt;
  shallow = (lit≤ tt, (lit≤ tt, (lit≤ tt, (lit≤ tt, (lit≤ tt, (lit≤ tt, (lit≤ tt, (lit≤ tt, (lit≤ tt, (lit≤ tt, (lit≤ tt, (lit≤ tt, (lit≤ tt, (lit≤ tt, (lit≤ tt, (lit≤ tt, (lit≤ tt, (lit≤ tt, (lit≤ tt, (lit≤ tt, (lit≤ tt, (lit≤ tt, (lit≤ tt, (lit≤ tt, (lit≤ tt, (lit≤ tt, (lit≤ tt, (lit≤ tt, (lit≤ tt, (lit≤ tt, (lit≤ tt, (lit≤ tt, (lit≤ tt, tt)))))))))))))))))))))))))))))))));
}

-- `f ( ) { switch ( a ) { case 1 : case 2 + 3 : b ; break ; default : { } } }`: a switch
switches : ReadsTokens
    ((tok 1 (k.name n_f)) ∷ (mark 1 21) ∷ (mark 1 22) ∷ (mark 1 25) ∷ (word 1 20) ∷ (mark 1 21) ∷ (tok 1 (k.name n_a)) ∷ (mark 1 22) ∷ (mark 1 25) ∷ (word 1 2) ∷ (tok 1 (k.int 1 false)) ∷ (mark 1 30) ∷ (word 1 2) ∷ (tok 1 (k.int 2 false)) ∷ (mark 1 33) ∷ (tok 1 (k.int 3 false)) ∷ (mark 1 30) ∷ (tok 1 (k.name n_b)) ∷ (mark 1 29) ∷ (word 1 1) ∷ (mark 1 29) ∷ (word 1 5) ∷ (mark 1 30) ∷ (mark 1 25) ∷ (mark 1 26) ∷ (mark 1 26) ∷ (mark 1 26) ∷ [])
    (record { exts = (tu.func 1 None (td.function 1 (td.name 1 n_f) []) [] (record { line = 1; decls = []; stmts = ts.more_stmts (ts.switch 1 (t.name 1 n_a) (ts.more_items (ts.case 1 (t.int 1 1 false)) (ts.more_items (ts.case 1 (t.binary 1 b.Add (t.int 1 2 false) (t.int 1 3 false))) (ts.more_items (ts.stmt (ts.expr 1 (t.name 1 n_b))) (ts.more_items (ts.stmt (ts.break 1)) (ts.more_items (ts.default 1) (ts.more_items (ts.stmt (ts.block 1 [] ts.no_stmts 1)) ts.no_items))))))) ts.no_stmts; close_line = 1 })) ∷ [] })
switches = record {
  written = (uw.func (record { parts = sw.no_parts; declr = dw.function (dw.name 1 n_f) 1 None 1; params = [] }) (record { line = 1; decls = []; stmts = zw.more_stmts (zw.switch 1 1 (w.name 1 n_a) 1 1 (zw.more_items (zw.case 1 (w.int 1 1 false) 1) (zw.more_items (zw.case 1 (w.binary (w.int 1 2 false) 1 b.Add (w.int 1 3 false)) 1) (zw.more_items (zw.stmt (zw.expr (w.name 1 n_b) 1)) (zw.more_items (zw.stmt (zw.break 1 1)) (zw.more_items (zw.default 1 1) (zw.more_items (zw.stmt (zw.block 1 [] zw.no_stmts 1)) zw.no_items)))))) 1) zw.no_stmts; close_line = 1 })) ∷ [];
  levelled = (((tt, (refl, tt), tt), (tt, (((lit≤ tt, refl), ((lit≤ tt, tt), ((lit≤ tt, (lit≤ tt, lit< tt, tt, tt)), ((lit≤ tt, refl), (tt, (tt, ((tt, tt), tt))))))), tt))), tt);
  plain_is = refl;
  tokens = refl;
  low = lit≤ tt;
  shallow = (lit≤ tt, (lit≤ tt, (lit≤ tt, (lit≤ tt, (lit≤ tt, (lit≤ tt, (lit≤ tt, (lit≤ tt, (lit≤ tt, (lit≤ tt, (lit≤ tt, (lit≤ tt, (lit≤ tt, (lit≤ tt, (lit≤ tt, (lit≤ tt, (lit≤ tt, (lit≤ tt, (lit≤ tt, (lit≤ tt, (lit≤ tt, (lit≤ tt, (lit≤ tt, (lit≤ tt, (lit≤ tt, (lit≤ tt, (lit≤ tt, tt)))))))))))))))))))))))))));
}

-- `typedef t ; f ( ) { register i = 1 , j ; auto t x ; static struct t * p ; extern unsigned e [ ] ; { t x ; ; } }`: declarations in blocks
locals : ReadsTokens
    ((word 1 21) ∷ (tok 1 (k.name n_t)) ∷ (mark 1 29) ∷ (tok 1 (k.name n_f)) ∷ (mark 1 21) ∷ (mark 1 22) ∷ (mark 1 25) ∷ (word 1 14) ∷ (tok 1 (k.name n_i)) ∷ (mark 1 32) ∷ (tok 1 (k.int 1 false)) ∷ (mark 1 28) ∷ (tok 1 (k.name n_j)) ∷ (mark 1 29) ∷ (word 1 0) ∷ (tok 1 (k.name n_t)) ∷ (tok 1 (k.name n_x)) ∷ (mark 1 29) ∷ (word 1 18) ∷ (word 1 19) ∷ (tok 1 (k.name n_t)) ∷ (mark 1 35) ∷ (tok 1 (k.name n_p)) ∷ (mark 1 29) ∷ (word 1 9) ∷ (word 1 22) ∷ (tok 1 (k.name n_e)) ∷ (mark 1 23) ∷ (mark 1 24) ∷ (mark 1 29) ∷ (mark 1 25) ∷ (tok 1 (k.name n_t)) ∷ (tok 1 (k.name n_x)) ∷ (mark 1 29) ∷ (mark 1 29) ∷ (mark 1 26) ∷ (mark 1 26) ∷ [])
    (record { exts = (tu.typedef 1 None ((td.name 1 n_t) ∷ [])) ∷ (tu.func 1 None (td.function 1 (td.name 1 n_f) []) [] (record { line = 1; decls = (record { line = 1; specs = record { storage = Some Register; types = None }; items = (record { declr = td.name 1 n_i; init = Some (td.single (t.int 1 1 false)) }) ∷ (record { declr = td.name 1 n_j; init = None }) ∷ [] }) ∷ (record { line = 1; specs = record { storage = Some Auto; types = Some (t.named n_t) }; items = (record { declr = td.name 1 n_x; init = None }) ∷ [] }) ∷ (record { line = 1; specs = record { storage = Some Static; types = Some (t.tag (record { line = 1; kind = Struct; name = n_t })) }; items = (record { declr = td.pointer 1 (td.name 1 n_p); init = None }) ∷ [] }) ∷ (record { line = 1; specs = record { storage = Some Extern; types = Some (t.num kinds.UInt) }; items = (record { declr = td.array 1 (td.name 1 n_e) None; init = None }) ∷ [] }) ∷ []; stmts = ts.more_stmts (ts.block 1 ((record { line = 1; specs = record { storage = None; types = Some (t.named n_t) }; items = (record { declr = td.name 1 n_x; init = None }) ∷ [] }) ∷ []) (ts.more_stmts (ts.empty 1) ts.no_stmts) 1) ts.no_stmts; close_line = 1 })) ∷ [] })
locals = record {
  written = (uw.typedef (sw.more_parts (sw.typedef 1) sw.no_parts) (record { first = (dw.name 1 n_t); others = [] }) 1) ∷ (uw.func (record { parts = sw.no_parts; declr = dw.function (dw.name 1 n_f) 1 None 1; params = [] }) (record { line = 1; decls = (record { parts = (gw.storage 1 Register) ∷ []; items = record { first = (record { declr = dw.name 1 n_i; given = Some (record { line = 1; init = dw.single (w.int 1 1 false) }) }); others = (record { comma = 1; member = (record { declr = dw.name 1 n_j; given = None }) }) ∷ [] }; line = 1 }) ∷ (record { parts = (gw.storage 1 Auto) ∷ (gw.typed (name_part 1 n_t)) ∷ []; items = record { first = (record { declr = dw.name 1 n_x; given = None }); others = [] }; line = 1 }) ∷ (record { parts = (gw.storage 1 Static) ∷ (gw.typed (tag_part 1 Struct 1 n_t)) ∷ []; items = record { first = (record { declr = dw.pointer 1 (dw.name 1 n_p); given = None }); others = [] }; line = 1 }) ∷ (record { parts = (gw.storage 1 Extern) ∷ (gw.typed (word_part 1 Unsigned)) ∷ []; items = record { first = (record { declr = dw.array (dw.name 1 n_e) 1 None 1; given = None }); others = [] }; line = 1 }) ∷ []; stmts = zw.more_stmts (zw.block 1 ((record { parts = (gw.typed (name_part 1 n_t)) ∷ []; items = record { first = (record { declr = dw.name 1 n_x; given = None }); others = [] }; line = 1 }) ∷ []) (zw.more_stmts (zw.empty 1) zw.no_stmts) 1) zw.no_stmts; close_line = 1 })) ∷ [];
  levelled = ((record { no_storage = refl; one_typedef = refl; types = refl; parts = tt }, (refl, tt)), (((tt, (refl, tt), tt), (((record { some = refl; storage = refl; types = refl; parts = tt }, ((refl, (lit≤ tt, tt)), ((refl, tt), tt))), ((record { some = refl; storage = refl; types = refl; parts = (refl, tt) }, ((refl, tt), tt)), ((record { some = refl; storage = refl; types = refl; parts = (refl, tt) }, ((refl, tt), tt)), ((record { some = refl; storage = refl; types = refl; parts = (tt, tt) }, (((refl, refl, tt), tt), tt)), tt)))), ((((record { some = refl; storage = refl; types = refl; parts = (refl, tt) }, ((refl, tt), tt)), tt), (tt, tt)), tt))), tt));
  plain_is = refl;
  tokens = refl;
  low = lit≤ tt;
  shallow = (lit≤ tt, (lit≤ tt, (lit≤ tt, (lit≤ tt, (lit≤ tt, (lit≤ tt, (lit≤ tt, (lit≤ tt, (lit≤ tt, (lit≤ tt, (lit≤ tt, (lit≤ tt, (lit≤ tt, (lit≤ tt, (lit≤ tt, (lit≤ tt, (lit≤ tt, (lit≤ tt, (lit≤ tt, (lit≤ tt, (lit≤ tt, (lit≤ tt, (lit≤ tt, (lit≤ tt, (lit≤ tt, (lit≤ tt, (lit≤ tt, (lit≤ tt, (lit≤ tt, (lit≤ tt, (lit≤ tt, (lit≤ tt, (lit≤ tt, (lit≤ tt, (lit≤ tt, (lit≤ tt, (lit≤ tt, tt)))))))))))))))))))))))))))))))))))));
}

-- the line of each node is that of its first token:
--   int
--   f(a)
--     int a;
--   {
--     static
--       int x;
--     do
--       x = (a
--         + 1);
--     while (x);
--   }
lines : ReadsTokens
    ((word 1 12) ∷ (tok 2 (k.name n_f)) ∷ (mark 2 21) ∷ (tok 2 (k.name n_a)) ∷ (mark 2 22) ∷ (word 3 12) ∷ (tok 3 (k.name n_a)) ∷ (mark 3 29) ∷ (mark 4 25) ∷ (word 5 18) ∷ (word 6 12) ∷ (tok 6 (k.name n_x)) ∷ (mark 6 29) ∷ (word 7 6) ∷ (tok 8 (k.name n_x)) ∷ (mark 8 32) ∷ (mark 8 21) ∷ (tok 8 (k.name n_a)) ∷ (mark 9 33) ∷ (tok 9 (k.int 1 false)) ∷ (mark 9 22) ∷ (mark 9 29) ∷ (word 10 24) ∷ (mark 10 21) ∷ (tok 10 (k.name n_x)) ∷ (mark 10 22) ∷ (mark 10 29) ∷ (mark 11 26) ∷ [])
    (record { exts = (tu.func 1 (Some (record { storage = None; types = Some (td.spec (t.num kinds.Int)) })) (td.function 2 (td.name 2 n_f) (n_a ∷ [])) ((record { line = 3; register = false; types = td.spec (t.num kinds.Int); declrs = (td.name 3 n_a) ∷ [] }) ∷ []) (record { line = 4; decls = (record { line = 5; specs = record { storage = Some Static; types = Some (t.num kinds.Int) }; items = (record { declr = td.name 6 n_x; init = None }) ∷ [] }) ∷ []; stmts = ts.more_stmts (ts.do_while 7 (ts.expr 8 (t.assign 8 a.Set (t.name 8 n_x) (t.binary 8 b.Add (t.name 8 n_a) (t.int 9 1 false)))) 10 (t.name 10 n_x)) ts.no_stmts; close_line = 11 })) ∷ [] })
lines = record {
  written = (uw.func (record { parts = sw.more_parts (sw.typed (word_part 1 Int)) sw.no_parts; declr = dw.function (dw.name 2 n_f) 2 (Some (record { first = (record { line = 2; name = n_a }); others = [] })) 2; params = (record { register = None; parts = sw.more_parts (sw.typed (word_part 3 Int)) sw.no_parts; declrs = record { first = (dw.name 3 n_a); others = [] }; line = 3 }) ∷ [] }) (record { line = 4; decls = (record { parts = (gw.storage 5 Static) ∷ (gw.typed (word_part 6 Int)) ∷ []; items = record { first = (record { declr = dw.name 6 n_x; given = None }); others = [] }; line = 6 }) ∷ []; stmts = zw.more_stmts (zw.do_while 7 (zw.expr (w.assign (w.name 8 n_x) 8 a.Set (w.bracket 8 (w.binary (w.name 8 n_a) 9 b.Add (w.int 9 1 false)) 9)) 9) 10 10 (w.name 10 n_x) 10 10) zw.no_stmts; close_line = 11 })) ∷ [];
  levelled = (((record { some = refl; storage = refl; no_typedef = refl; types = refl; parts = (tt, tt) }, (refl, (refl, tt)), ((record { no_storage = refl; no_typedef = refl; types = refl; parts = (tt, tt) }, (refl, tt)), tt)), (((record { some = refl; storage = refl; types = refl; parts = (tt, tt) }, ((refl, tt), tt)), tt), (((lit≤ tt, (lit≤ tt, lit≤ tt, refl, (lit≤ tt, lit< tt, refl, tt))), (lit≤ tt, refl)), tt))), tt);
  plain_is = refl;
  tokens = refl;
  low = lit≤ tt;
  shallow = (lit≤ tt, (lit≤ tt, (lit≤ tt, (lit≤ tt, (lit≤ tt, (lit≤ tt, (lit≤ tt, (lit≤ tt, (lit≤ tt, (lit≤ tt, (lit≤ tt, (lit≤ tt, (lit≤ tt, (lit≤ tt, (lit≤ tt, (lit≤ tt, (lit≤ tt, (lit≤ tt, (lit≤ tt, (lit≤ tt, (lit≤ tt, (lit≤ tt, (lit≤ tt, (lit≤ tt, (lit≤ tt, (lit≤ tt, (lit≤ tt, (lit≤ tt, tt))))))))))))))))))))))))))));
}
