-- Each class that a module reaches has a home.
use Rattle.std.proofs.Common.{◌≡◌, List, [], ◌∷◌, Contains, inl, inr, refl, sym, ap, subst, map}
use Rattle.std.specs.Prelude.{◌⊎◌}
use Rattle.std.specs.Cmp.Lexicographic.{nat_list_cmp_total}
use Rattle.sj_emit_module_spec.specs.Laws.{AreThese}
use Rattle.sj_names.specs.declared.entry_points.EntryPoint.{EntryPoint}
use Rattle.sj_split.proofs.Least.{not_before_itself}
use Rattle.sj_split.proofs.Members.{at_first, further, cons_cases, into_map}
use Rattle.sj_split.proofs.Tagged.{Below, IsSomeHome, has_home}
use Rattle.sj_split.proofs.Unique.{first_of_increasing}
use Rattle.sj_split.specs.Homes.{home_of_tags, IsHome, AreHomes, class_of}
use Rattle.sj_split.specs.Modules.{module_of}
use Rattle.sj_split.specs.Orders.{Bytes, IsBefore}
use Rattle.sj_split.specs.Steps.{AreSettled}
use Rattle.sj_split.specs.Walks.{Name, Id, References, Reaches, IsReached, SameComponent, IsLeastOfComponent}
use Rattle.sj_split.specs.declared.homes.Home.{Home}
use Rattle.sj_split.specs.declared.homes.Home.TheVariants.{Internal}
use Rattle.sj_split.specs.declared.homes.Settled.{Settled}
use Rattle.sj_split.specs.declared.plans.Style.{Style}
use Rattle.sj_split.specs.declared.plans.Style.TheVariants.{Fewest, Smallest}
use Rattle.worklist.proofs.Inserted.{nothing_in}
use Rattle.worklist.specs.Paths.{stay}
use Rattle.sj_split_plans.proofs.Decided.{Listed, listed}
use Rattle.sj_split_plans.proofs.Walks.{near, ends_near, component_or_not, named, reached_named, reached_or_not, reaches_or_not}

below_each : (x y : Bytes) (ys : List Bytes) → Below x ys → Contains ys y → IsBefore x y
below_each x y [] below h = nothing_in y h
below_each x y (z ∷ zs) below h = elim (cons_cases z y zs h) [ inl is ↦ subst (λ (t : Bytes). IsBefore x t) is below.0 | inr later ↦ below_each x y zs below.1 later ]

module _ (references : References) (entries : List EntryPoint) where
  -- the least class of a component
  least_there : (class : Name) → (least : Name) × IsLeastOfComponent references class least
  least_there class = go of.texts of.are
    where
      of : Listed (SameComponent references class)
      of = listed (SameComponent references class) (component_or_not references class) (near references class) (λ other s. ends_near references class other s.there)

      go : (texts : List Name) → AreThese (SameComponent references class) texts → (least : Name) × IsLeastOfComponent references class least
      go [] are = nothing_in class ((are.exact class).1 (record { there = stay; back = stay }))
      go (least ∷ more) are = (least, record { same = (are.exact least).0 (at_first least more); first = λ other s before. not_before least more (first_of_increasing least more are.in_order) other (cons_cases least other more ((are.exact other).1 s)) before })
        where
          not_before : (x : Name) (xs : List Name) → Below x xs → (other : Name) → (x ≡ other) ⊎ Contains xs other → IsBefore other x → ⊥
          not_before x xs below other (inl is) before = not_before_itself x (subst (λ (t : Bytes). IsBefore t x) (sym is) before)
          not_before x xs below other (inr later) before = not_before_itself x (nat_list_cmp_total.trans x other x (below_each x other xs below later) before)

  home_there : (style : Style) (class : Name) → IsReached references entries class → (home : Home) × IsHome references entries style class home
  home_there Fewest class reached = (home.some, record { tags = tags.texts; are_tags = record { increasing = tags.are.in_order; exact = tags.are.exact }; is_home = home.is })
    where
      tags : Listed (λ (id : Id). Reaches references entries id class)
      tags = listed (λ (id : Id). Reaches references entries id class) (λ id. reaches_or_not references entries id class) (map module_of entries) (λ id r. subst (λ (i : Id). Contains (map module_of entries) i) r.in_module (into_map module_of entries r.entry r.among))

      home : IsSomeHome (home_of_tags tags.texts)
      home = has_home references entries class tags.texts (record { increasing = tags.are.in_order; exact = tags.are.exact }) reached (home_of_tags tags.texts) refl
  home_there Smallest class reached = let of = least_there class in (Internal of.0, record { reached = reached; least = of.0; is_least = of.1; is_home = refl })

  module _ (style : Style) where
    abbrev Right : Settled → Type 0
    Right settled = IsHome references entries style settled.class settled.home

    settled_more : (class : Name) (classes : List Name) → ((home : Home) × IsHome references entries style class home) → ((homes : List Settled) × AreSettled Right classes homes) → (homes : List Settled) × AreSettled Right (class ∷ classes) homes
    settled_more class classes home rest = (one ∷ rest.0, record { classes_are = ap (λ (l : List Name). class ∷ l) rest.1.classes_are; right = λ settled h. right settled (cons_cases one settled rest.0 h) })
      where
        one : Settled
        one = record { class = class; home = home.0 }

        right : (settled : Settled) → (one ≡ settled) ⊎ Contains rest.0 settled → Right settled
        right settled (inl is) = subst Right is home.1
        right settled (inr later) = rest.1.right settled later

    all_settled : (classes : List Name) → ((class : Name) → Contains classes class → IsReached references entries class) → (homes : List Settled) × AreSettled Right classes homes
    all_settled [] reached = ([], record { classes_are = refl; right = λ settled h. nothing_in settled h })
    all_settled (class ∷ classes) reached = settled_more class classes (home_there style class (reached class (at_first class classes))) (all_settled classes (λ other h. reached other (further class other classes h)))

    pub homes_there : (homes : List Settled) × AreHomes references entries style homes
    homes_there = (settled.0, record { increasing = are.in_order; reached = are.exact; right = settled.1.right })
      where
        classes : Listed (IsReached references entries)
        classes = listed (IsReached references entries) (reached_or_not references entries) (named references entries) (reached_named references entries)

        settled : (homes : List Settled) × AreSettled Right classes.texts homes
        settled = all_settled classes.texts (λ class h. (classes.are.exact class).0 h)

        are : AreThese (IsReached references entries) (map class_of settled.0)
        are = subst (λ (l : List Name). AreThese (IsReached references entries) l) (sym settled.1.classes_are) classes.are
