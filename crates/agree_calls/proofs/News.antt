-- `new` of a class: where its chain stands in the program, it makes the object that the IR makes.
use Rattle.std.specs.Prelude.{◌+◌, ◌≤◌, ◌<◌}
use Rattle.std.proofs.Common.{◌≡◌, ℕ, zero, suc, List, [], length, Some, refl, sym, subst, ◌⊎◌, inl, inr, ⊎_elim, arith}
use Rattle.outcomes.specs.Outcome.{done}
use Rattle.outcomes.specs.Agreement.{Direction, forward, backward, Sim}
use Rattle.outcomes.proofs.Simulation.{sim_done, sim_going}
use Rattle.dispatch_laws.specs.Dispatch.{chain_of}
use Rattle.dispatch_laws.specs.States as ir
use Rattle.js_mean.specs.Meaning as js_meaning
use Rattle.js_mean.specs.Objects.{allocated}
use Rattle.js_mean.specs.States as js
use Rattle.dispatch_laws.specs.Templates.{static_name}
use Rattle.agree_bodies.specs.Settings.{Place, SameState, Makes, makes, a_static, a_cell, cell_name, link_of, links_of}
use Rattle.agree_bodies.proofs.Heaps.{holding-carry, pends, unpending}
use Rattle.agree_bodies.specs.Worlds.{with_pending}
use Rattle.agree_bodies.proofs.Worlds.{World}
use Rattle.sj_trees.specs.Types.{class_type}
use Rattle.agree_calls.specs.Worlds.{Stands}
use Rattle.agree_calls.proofs.Making.{chains_make, short_bounds_go}

-- a number is less than another, or it is that one and some more
record More (a n : ℕ) : Type 0 where
  more : ℕ
  is : n ≡ a + more

split : (a n : ℕ) → (n < a) ⊎ More a n
split zero n = inr (record { more = n; is = omega arith })
split (suc a) zero = inl (omega arith)
split (suc a) (suc n) = ⊎_elim (λ h. inl (omega (arith, h))) (λ m. inr (record { more = m.more; is = let e = m.is in omega (arith, e) })) (split a n)

abbrev pub Made : Direction → Place → List ℕ → ℕ → World → ir.Env → ir.State → js.State → Type 0
Made d p c n w env s u = Sim d (Makes p w c env s) (done (ir.ends (ir.gives ir.undefined) env s)) (js_meaning.construct p.program (js_meaning.below p.program n) (links_of p c) (links_of p c) [] u)

-- with as many units as the chain has classes, or more
made_whole : (d : Direction) (p : Place) (c : List ℕ) (more : ℕ) (w : World) (env : ir.Env) (s : ir.State) (u : js.State) → Stands p c w u → SameState p w s u → Made d p c (length (chain_of p.classes c) + more) w env s u
made_whole d p c more w env s u stands same = subst (λ o. Sim d (Makes p w c env s) (done (ir.ends (ir.gives ir.undefined) env s)) o) (sym (chains_make p.program (link_of p) u (chain_of p.classes c) stands.own (links_of p c) stands.makers more)) (sim_done d (Makes p w c env s) (ir.ends (ir.gives ir.undefined) env s) (js.gives (js.object (length u.heap)) (allocated (links_of p c) stands.own u)) (makes (length u.heap) (js.plain (links_of p c) stands.own) (allocated (links_of p c) stands.own u) (unpending p w s.heap u.heap same.heaps) stands.shape (record { heaps = pends p w s.heap u.heap same.heaps (js.plain (links_of p c) stands.own); tops = same.tops; statics = λ g b f t h. holding-carry w (with_pending (length u.heap) (js.plain (links_of p c) stands.own) w) t (record { places = λ i a e. e; arrays = λ i k e. e; owns = λ a o e. e; boxes = refl }) (s.statics b f) (u.tops (p.home (a_static b f t)) (static_name b f)) (same.statics g b f t h); cells = λ g b h. holding-carry w (with_pending (length u.heap) (js.plain (links_of p c) stands.own) w) (class_type b) (record { places = λ i a e. e; arrays = λ i k e. e; owns = λ a o e. e; boxes = refl }) (Some (s.cells b)) (u.tops (p.home (a_cell b)) (cell_name b)) (same.cells g b h) })))

-- `new` of a class: by the forward half within enough units for its chain, by the backward half within any
pub made_alike : (d : Direction) (p : Place) (c : List ℕ) (n : ℕ) → (d ≡ forward → length (chain_of p.classes c) ≤ n) → (w : World) (env : ir.Env) (s : ir.State) (u : js.State) → Stands p c w u → SameState p w s u → Made d p c n w env s u
made_alike d p c n enough w env s u stands same = by d enough (split (length (chain_of p.classes c)) n)
  where
    by : (d : Direction) → (d ≡ forward → length (chain_of p.classes c) ≤ n) → (n < length (chain_of p.classes c)) ⊎ More (length (chain_of p.classes c)) n → Made d p c n w env s u
    by d enough (inr m) = subst (λ k. Made d p c k w env s u) (sym m.is) (made_whole d p c m.more w env s u stands same)
    by backward enough (inl h) = subst (λ o. Sim backward (Makes p w c env s) (done (ir.ends (ir.gives ir.undefined) env s)) o) (sym (short_bounds_go p.program (link_of p) u (chain_of p.classes c) stands.own (links_of p c) stands.makers n h)) (sim_going (Makes p w c env s) (done (ir.ends (ir.gives ir.undefined) env s)))
    by forward enough (inl h) = let l = enough refl in absurd (omega (arith, l, h))
