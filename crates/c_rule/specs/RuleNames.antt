-- What a unit as it is read defines: its tags, its function bodies, its initialised names.
use Rattle.std.specs.Prelude.{List, [], ◌∷◌, ◌++◌, Option, Some, None}
use Rattle.std.specs.List.{flat_map}
use Rattle.c_type.specs.Names.{Name, or_default}
use Rattle.c_type.specs.declared.TagKind.TheVariants.{Struct, Union, Enum}
use Rattle.c_tree.specs.declared.decl.Storage.{Storage}
use Rattle.c_tree.specs.TreeDecl.{Types, spec, def, TagDef, struct, union, enum, Mem, mem, Mems, no_mems, more_mems, TagSpec, ref, body, FileSpecs, Item, Init, declared}
use Rattle.c_tree.specs.TreeUnit.{Ext, typedef, tag_only, object, func, Unit}
use Rattle.c_rule.specs.RuleScope.{TagHead, Body}
use Rattle.c_rule.specs.RuleStmts.{is_static}

-- the tags whose bodies stand in the words of a declaration, in the order of their closing braces
abbrev mutual
  pub tags_in_types : Types → List TagHead
  tags_in_types (spec y) = []
  tags_in_types (def d) = tags_in_def d

  pub tags_in_def : TagDef → List TagHead
  tags_in_def (struct l x ms) = tags_in_mems ms ++ record { name = or_default [] x; kind = Struct } ∷ []
  tags_in_def (union l x ms) = tags_in_mems ms ++ record { name = or_default [] x; kind = Union } ∷ []
  tags_in_def (enum l x es) = record { name = or_default [] x; kind = Enum } ∷ []

  pub tags_in_mems : Mems → List TagHead
  tags_in_mems no_mems = []
  tags_in_mems (more_mems m ms) = tags_in_mem m ++ tags_in_mems ms

  pub tags_in_mem : Mem → List TagHead
  tags_in_mem (mem l y ds) = tags_in_types y

-- the words of a function's head, which may all be left out
abbrev pub storage_of : Option FileSpecs → Option Storage
storage_of None = None
storage_of (Some s) = s.storage

abbrev pub types_of : Option FileSpecs → Option Types
types_of None = None
types_of (Some s) = s.types

abbrev pub tags_in_option : Option Types → List TagHead
tags_in_option None = []
tags_in_option (Some y) = tags_in_types y

abbrev pub tags_in_spec : TagSpec → List TagHead
tags_in_spec (ref t) = []
tags_in_spec (body d) = tags_in_def d

abbrev pub tags_in_ext : Ext → List TagHead
tags_in_ext (typedef l y ds) = tags_in_option y
tags_in_ext (tag_only l t) = tags_in_spec t
tags_in_ext (object l s is) = tags_in_option s.types
tags_in_ext (func l s d ps b) = tags_in_option (types_of s) ++ flat_map (λ p. tags_in_types p.types) ps

-- the tags that a unit defines, in the order of their closing braces
abbrev pub tags_in : Unit → List TagHead
tags_in y = flat_map tags_in_ext y.exts

-- the names of tags that have one
abbrev pub tag_names : List TagHead → List Name
tag_names [] = []
tag_names (r ∷ rs) = named r.name (tag_names rs)
  where
    named : Name → List Name → List Name
    named [] xs = xs
    named (b ∷ bs) xs = (b ∷ bs) ∷ xs

abbrev pub body_in_ext : Ext → List Body
body_in_ext (func l s d ps b) = record { name = declared d; is_static = is_static (storage_of s) } ∷ []
body_in_ext _ = []

-- the function bodies of a unit, in textual order
abbrev pub bodies_in : Unit → List Body
bodies_in y = flat_map body_in_ext y.exts

-- the name that an initialised declarator defines
abbrev pub defined_by : Item → List Name
defined_by i = by_init i.init
  where
    by_init : Option Init → List Name
    by_init None = []
    by_init (Some j) = declared i.declr ∷ []

abbrev pub defined_in_ext : Ext → List Name
defined_in_ext (typedef l y ds) = []
defined_in_ext (tag_only l t) = []
defined_in_ext (object l s is) = flat_map defined_by is
defined_in_ext (func l s d ps b) = declared d ∷ []

-- the names that initialisers and bodies define at file level
abbrev pub defined_in : Unit → List Name
defined_in y = flat_map defined_in_ext y.exts
