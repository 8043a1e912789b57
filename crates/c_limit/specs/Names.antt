-- The declared names and the tags of a unit with their types, in textual order.
-- It states docs/LANGUAGE.md, section Limits.
use Rattle.std.specs.Prelude.{List, [], ◌∷◌, ◌++◌, map, ℕ}
use Rattle.std.specs.List.{flat_map, filter_map}
use Rattle.c_type.specs.Names.{Name, at_or}
use Rattle.c_type.specs.Types.{CType, struct, enum, fun, Tag}
use Rattle.c_type.specs.Sizes.{no_tag}
use Rattle.c_tree.specs.TStmt as st
use Rattle.c_tree.specs.TStmt.{Declr}
use Rattle.c_tree.specs.TUnit as u
use Rattle.c_tree.specs.TUnit.{Spec, Mems, ParDecl, Func, TExt, TypedUnit}
use Rattle.c_rule.specs.RuleUnit.{as_parameter}
use Rattle.c_limit.specs.Parts.{local_in, parts}

-- a declared name, or a tag's, with its type
pub record Named : Type 0 where
  pub name : Name
  pub ty : CType

-- a declarator
abbrev pub of_declr : Declr → Named
of_declr d = record { name = d.name; ty = d.ty }

-- a declarator of a parameter: an array and a function are pointers
abbrev pub of_parameter : Declr → Named
of_parameter d = record { name = d.name; ty = as_parameter d.ty }

-- tag k of a unit, under its own name, which is empty where it has none
abbrev pub of_tag : List Tag → (ℕ → CType) → ℕ → Named
of_tag ts kind k = record { name = (at_or no_tag ts k).name; ty = kind k }

-- members stand before their tag, which stands at its closing brace
abbrev mutual
  pub named_spec : List Tag → Spec → List Named
  named_spec ts (u.plain t) = []
  named_spec ts (u.struct_body k ms) = named_mems ts ms ++ of_tag ts struct k ∷ []
  named_spec ts (u.enum_body k es) = of_tag ts enum k ∷ []

  pub named_mems : List Tag → Mems → List Named
  named_mems ts u.no_mems = []
  named_mems ts (u.more_mems s ds ms) = named_spec ts s ++ (map of_declr ds ++ named_mems ts ms)

-- what a declarator of a block declares, also under `extern` and as a function
abbrev pub named_local : st.Local → Named
named_local (st.auto d i) = of_declr d
named_local (st.auto_init d i k l e) = of_declr d
named_local (st.static_ d k i) = of_declr d
named_local (st.extern_ d) = of_declr d
named_local (st.function d s) = of_declr d

-- declarations of parameters
abbrev pub named_pars : List Tag → ParDecl → List Named
named_pars ts p = named_spec ts p.spec ++ map of_parameter p.declrs

-- a function's name stands before its parameters and what its body declares
abbrev pub named_func : List Tag → Func → List Named
named_func ts f =
    record { name = f.name; ty = fun f.result } ∷ (flat_map (named_pars ts) f.declared ++ map named_local (filter_map local_in (parts f)))

-- a part of a unit
abbrev pub named_ext : List Tag → TExt → List Named
named_ext ts (u.typedef s ds) = named_spec ts s ++ map of_declr ds
named_ext ts (u.tag_only s) = named_spec ts s
named_ext ts (u.object s is) = named_spec ts s ++ map (λ i. of_declr i.declr) is
named_ext ts (u.func s f) = named_spec ts s ++ named_func ts f

-- the declared names of a unit, and its tags at their closing braces
abbrev pub declared_names : TypedUnit → List Named
declared_names x = flat_map (named_ext x.tags) x.exts
