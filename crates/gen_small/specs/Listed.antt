-- The code that a list of items stands for, and the functions whose code is made.
use Rattle.std.specs.Prelude.{ℕ, zero, suc, List, [], ◌∷◌, false}
use Rattle.c_type.specs.declared.Kind.TheVariants.{Int}
use Rattle.c_type.specs.Types.{num}
use Rattle.c_tree.specs.TStmt.{Local, auto, no_stmts}
use Rattle.c_run.specs.Values.{Body}
use Rattle.gen_small.specs.declared.code_list.Label.{Label}
use Rattle.gen_small.specs.declared.code_list.Label.TheVariants as l
use Rattle.gen_small.specs.declared.code_list.Item.{Item}
use Rattle.gen_small.specs.declared.code_list.Item.TheVariants as i
use Rattle.gen_small.specs.declared.code_list.IntFrame.{IntFrame}
use Rattle.gen_small.specs.Items as s
use Rattle.gen_small.specs.Code.{Site}

-- a label of function f
abbrev pub label_of : ℕ → Label → s.Name
label_of f l.Entry = s.Entry (Body f)
label_of f l.Close = s.Close f
label_of f (l.Top k) = s.Top f k
label_of f (l.End k) = s.End f k

-- an item of its code
abbrev pub item_of : ℕ → Item → s.Item
item_of f (i.Start k) = s.Start k
item_of f (i.Open k) = s.Open k
item_of f (i.Op op) = s.Op op
item_of f (i.Label n) = s.Label (label_of f n)
item_of f (i.Goto n) = s.Goto (label_of f n)
item_of f (i.If c n) = s.If c (label_of f n)
item_of f (i.CallTo n) = s.CallTo (label_of f n)

-- the code of a function
pub record Listing : Type 0 where
  pub frame : IntFrame
  pub items : List s.Item

-- n automatic objects of type int, numbered from i on
abbrev pub int_locals : ℕ → ℕ → List Local
int_locals i zero = []
int_locals i (suc n) = auto (record { name = []; ty = num Int; dims = [] }) i ∷ int_locals (suc i) n

-- a function with so many automatic objects of type int; nothing else of it matters to the code of its statements
unfoldable pub int_site : IntFrame → Site
int_site t =
    record {
      whole = record { units = []; classes = []; lasting = []; bodies = [] };
      fun = t.fun;
      body = record { unit = 0; func = record { name = []; is_static = false; result = num Int; params = []; declared = []; open_ = 0; line = 0; locals = record { items = int_locals 0 t.objects } ∷ []; stmts = no_stmts; close = 0; close_line = 0 } };
    }
