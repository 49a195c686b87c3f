-- Homes that are found are the homes.
use Rattle.std.proofs.Common.{◌≡◌, ℕ, ◌+◌, ◌<◌, List, [], ◌∷◌, ◌++◌, Contains, refl, sym, ap, ◌∙◌, subst, map, take, length, get_or, inl, inr}
use Rattle.std.specs.Prelude.{◌⊎◌}
use Rattle.std.proofs.lemmas.List.{take_more, map-append}
use Rattle.std.proofs.lemmas.List.Elements.{Contains-push_cases}
use Rattle.std.proofs.Math.Seq.{take-length}
use Rattle.sj_names.specs.declared.entry_points.EntryPoint.{EntryPoint}
use Rattle.worklist.proofs.Inserted.{nothing_in}
use Rattle.sj_split.specs.declared.homes.Settled.{Settled}
use Rattle.sj_split.specs.declared.plans.Style.{Style}
use Rattle.sj_split.specs.declared.plans.Style.TheVariants.{Smallest}
use Rattle.sj_split.specs.Orders.{AreIncreasing}
use Rattle.sj_split.specs.Walks.{Name, References}
use Rattle.sj_split.specs.Homes.{class_of, IsHome, AreHomes}
use Rattle.sj_split.specs.Steps.{AreReached, AreSettled, IsLeastHome}
use Rattle.sj_split.proofs.Members.{into_map}

-- what holds once items were made for the first names
pub record Gathering {X : Type 0} (key : X → Name) (Right : X → Type 0) (names : List Name) (done : ℕ) (items : List X) : Type 0 where
  pub keys_are : map key items ≡ take done names
  pub right : (one : X) → Contains items one → Right one

pub gathering_begins : {X : Type 0} (key : X → Name) (Right : X → Type 0) (names : List Name) (items : List X) → items ≡ [] → Gathering key Right names 0 items
gathering_begins {X} key Right names items e = subst (λ (l : List X). Gathering key Right names 0 l) (sym e) (record { keys_are = refl; right = λ one h. nothing_in one h })

pub gathering_more : {X : Type 0} (key : X → Name) (Right : X → Type 0) (names : List Name) (done : ℕ) (items more : List X) (one : X) (name : Name) → Gathering key Right names done items → done < length names → name ≡ get_or names done name → key one ≡ name → Right one → more ≡ items ++ one ∷ [] → Gathering key Right names (done + 1) more
gathering_more {X} key Right names done items more one name g within at named right e = subst (λ (l : List X). Gathering key Right names (done + 1) l) (sym e) (record {
  keys_are = map-append key items (one ∷ []) ∙ ap (λ l. l ++ key one ∷ []) g.keys_are ∙ ap (λ n. take done names ++ n ∷ []) (named ∙ at) ∙ sym (take_more names done name within);
  right = λ other h. by other (Contains-push_cases items one other h);
})
  where
    by : (other : X) → Contains items other ⊎ (one ≡ other) → Right other
    by other (inl old) = g.right other old
    by other (inr e) = subst (λ (o : X). Right o) e right

pub gathered : {X : Type 0} (key : X → Name) (Right : X → Type 0) (names : List Name) (done : ℕ) (items : List X) → Gathering key Right names done items → done ≡ length names → map key items ≡ names
gathered key Right names done items g all = g.keys_are ∙ ap (λ n. take n names) all ∙ take-length names

-- the classes that are reached, each with the home that the style says
pub homes_are : (references : References) (entries : List EntryPoint) (style : Style) (classes : List Name) (homes : List Settled) → AreReached references entries classes → AreSettled (λ one. IsHome references entries style one.class one.home) classes homes → AreHomes references entries style homes
homes_are references entries style classes homes reached s = record {
  increasing = subst (λ l. AreIncreasing l) (sym s.classes_are) reached.increasing;
  reached = λ class. (λ h. (reached.exact class).0 (subst (λ l. Contains l class) s.classes_are h), λ r. subst (λ l. Contains l class) (sym s.classes_are) ((reached.exact class).1 r));
  right = s.right;
}

-- homes by components
pub smallest_homes : (references : References) (entries : List EntryPoint) (classes : List Name) (homes : List Settled) → AreReached references entries classes → AreSettled (IsLeastHome references) classes homes → AreHomes references entries Smallest homes
smallest_homes references entries classes homes reached s = homes_are references entries Smallest classes homes reached (record {
  classes_are = s.classes_are;
  right = λ one h. let r = s.right one h in record {
    reached = (reached.exact one.class).0 (subst (λ l. Contains l one.class) s.classes_are (into_map class_of homes one h));
    least = r.least;
    is_least = r.is_least;
    is_home = r.is_home;
  };
})
