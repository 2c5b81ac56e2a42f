-- Steps that walks by hand share, for functions that lend a struct by `&mut` or pass one that holds a reference. A walk is
-- written in the calculus of `types.Kit`; what stands at the head of its context is named first.
--     meets, framed    a walk of a function's MIR gives the function's theorem; its table of calls is monotone under a frame
--     meets-spent, ends    the same for a walk that has nothing of its parameters at the exit, and how such a walk ends
--     shown, both-shown, both-said     a clause that is a fact, and two facts as one
--     called-as        a function is called: what it asks is shown, and what it says is told as a fact
--     Callee, called   a function whose clauses are facts is called: its tokens and what its parameters own are handed over, and
--                      what its result owns, the last values of its `&mut`s and the tokens are had, with the result's value spelled out
--     opened, shut     a `&mut` of a struct is opened, which gives the struct's cell and what the struct owns, and closed at another value
--     lends, takes_back    a local that holds a struct is lent for a lifetime, and is had again at the last value once that is ended
--     typed            a struct's machine value is of the struct's MIR type
--     freed            at a return: the locals, which stand behind the first m entries, are freed
-- The struct may hold references: what it owns is handed on, and nothing is asked of it.
-- Assumes `Logic`.
use mathlib.Core.Path.{◌≡◌, refl, sym, ap, subst}
use Prim.Native.Nat.{ℕ, zero, suc}
use mathlib.Core.List.{List, [], ◌∷◌}
use seplogic.Ra.Ura.{Ura}
use lib.Dec.{T as Holds}
use mir.Syntax.{Callee as Name, Ty, Lifetime, Fn, Place, Opd as Operand, Body as Code, seq, call}
use mir.Raw.{raw as raw_ty}
use mir.Val.{Val, WT, has_ty, vptr}
use base.Logic.{SProp, ent, sep, emp, never, id⊢, via, comm∗, assoc∗, assoc', mono∗, mono_l, mono_r, fst∗, snd∗, emp∗, never_e}
use base.Stored.{Gv}
use base.Fraction.{full_share}
use base.Fml.{Lft, Share, GName, Fml, ftrue, ffalse, fsep, fat, froom, fdies, flft, fobs, fauth, fres, flent, fobor}
use prog.Wp.{Env, Calls, Loops, Closed, WpFn, release}
use prog.Model.{Model}
use prog.Routine.{Env as Names}
use types.Logic.{Logic, sem}
use contract.Monad.{fact, fact_i, fact_use}
use contract.Lifetimes.{Lfts, Shares, AllOutlive}
use contract.Running.{Running, tables, tables_of}
use types.Kit.{Item, ‵, raw, some, later, ◌⊛◌, mean, ⋆, pop, push, Goal, Post, aim, runs, lands, frees, Soaks, Seq, Step, step, ◌$◌, ◌∵◌, !, qed, by, move, use0, use1, use2, use3, recast, rewrite, split, join, pick, fsplit, fsplit3, fpick, fpack, fjoin, fjoin3, feq_l, feq_i, suffices, await, done}
use types.Tokens.{lft_end}
use types.Run.{Opds, forget}
use types.SemTy.{Body}
use sound.WpLaws.{FmC, fm_of, WpFn-mono}
use denote.RattleType.{RattleType, Denots, Valss, flat, owns}
use denote.Laws.{Is, Ises, Are, Spells, valss, Tells, Tellss, shows}
use denote.Memory.{mem, part_of, lone, cell_raw, cell_at}
use denote.Ref.{MutBor, MutRef}
use denote.Lend.{lends_ref, ref_back}
use denote.Exit.{Last as LastOf, left}
use denote.Signature.{Slot, Signature, type_at, types_at}
use denote.Steps.{only, opens, closes, peeks, heard}
use denote.Struct.Declared.{Declared, row}
use denote.Struct.Laws as LL
use denote.Struct.Steps.{spelt}
use denote.Triple.Entry.{Args, alive, on_entry}
use denote.Triple.Statement.{Contract, Triple}
use denote.Triple.Spec.{Meets, triple_of}
use denote.Triple.Call.{calls_at}
use denote.Triple.End.{Kepts, Fins}
use denote.Triple.Clauses.{Ended, Clauses, Lasts, at_exit, lasts, closing}
use denote.Triple.Table.{entered}
use denote.Triple.Walked.{Stays, AllGo, stay_dropped, Goes-dropped, fits_of, has_of, walk_of, ends_at, walked, walk_Meets}

-- ---- from a walk to the theorem
module _ {M : Type 1} {𝓤 : Ura M} (𝓛 : Logic 𝓤) (𝓜 : Model 𝓤 𝓛.H) (𝓡 : Running 𝓤 𝓛.H 𝓜) (names : Names) where
  open 𝓛 use {H}

  abbrev C : Calls 𝓤 H
  C = (tables 𝓤 H 𝓜 𝓡 names).C

  abbrev Λ : Loops 𝓤 H
  Λ = (tables 𝓤 H 𝓜 𝓡 names).Λ

  pub framed : FmC 𝓤 H 𝓛.laws C
  unfolding tables_of
  framed = fm_of 𝓤 H 𝓛.laws (tables_of 𝓤 H 𝓜 (tables 𝓤 H 𝓜 𝓡 names))

  module _ (T : Ended) (hs : Stays T.signature.params T.kept) (c : Clauses 𝓤 T) where
    abbrev S : Signature
    S = T.signature

    abbrev passed : Lfts S.lifetimes → List RattleType
    passed κs = types_at S.params κs

    module _ (sp : (κs : Lfts S.lifetimes) → Spells (passed κs)) where
      -- the walk, at a choice of what the contract binds, with the parameters' machine values spelled out and their relations in hand
      abbrev WalkOf : Fn → Type 1
      WalkOf e = (κs : Lfts S.lifetimes) (qs : Shares S.lifetimes) (bounds : AllOutlive S.lifetimes S.outlives κs) (a : Args S κs) (g : (c κs a).ghost)
          → Are (passed κs) (Ises (passed κs)) a (valss (passed κs) (sp κs) a)
          → ent 𝓤 (sep 𝓤 (on_entry 𝓛 S κs qs a (valss (passed κs) (sp κs) a)) ((c κs a).requires g))
          (WpFn 𝓤 H C Λ e (flat (passed κs) (valss (passed κs) (sp κs) a)) ((walk_of 𝓛 T hs c).post ((κs, qs, bounds, a, valss (passed κs) (sp κs) a), g)))

      pub meets : ((κs : Lfts S.lifetimes) → Tellss (passed κs) (Ises (passed κs)) (sp κs)) → AllGo 𝓛 S.lifetimes S.params T.kept hs
          → (k : Name) (e : Fn) → Closed 𝓤 H C Λ k e → WalkOf e → Meets 𝓛 S (C k) (closing 𝓛 T c)
      unfolding tables_of
      meets tl gs k e closed walk =
          entered 𝓤 H (triple_of 𝓛 S (closing 𝓛 T c)) C Λ k e closed
          (walk_Meets 𝓛 T hs gs c (WpFn 𝓤 H C Λ e)
          (WpFn-mono 𝓤 H 𝓛.laws (tables_of 𝓤 H 𝓜 (tables 𝓤 H 𝓜 𝓡 names)) e) (walked 𝓛 T hs c (WpFn 𝓤 H C Λ e) sp tl walk))

-- ---- a walk that has nothing of its parameters at the exit, since what they own is handed on
module _ {n : ℕ} where
  abbrev pub spent : (ss : List (Slot n)) (ks : Kepts ss) → Stays ss ks
  spent [] ks = tt
  spent (s ∷ ss) ks = (stay_dropped s ks.0, spent ss ks.1)

  -- nothing is said of any parameter at the exit: a `λ κs x f. refl` for each
  abbrev pub Silents : (ss : List (Slot n)) → Kepts ss → Type 1
  Silents [] ks = Unit {1}
  Silents (s ∷ ss) ks = ((κs : Lfts n) (x : (s.row κs).Denot) (f : LastOf ((s.row κs).exit ks.0) x) → left ((s.row κs).exit ks.0) x f ≡ ftrue) × Silents ss ks.1

  fitting : (κs : Lfts n) (ss : List (Slot n)) (ks : Kepts ss) (a : Denots (types_at ss κs)) (ws : Fins κs ss ks a) → fits_of κs ss ks (spent ss ks) a ws
  fitting κs [] ks a ws = tt
  fitting κs (s ∷ ss) ks a ws = (tt, fitting κs ss ks.1 a.1 ws.1)

  module _ {M : Type 1} {𝓤 : Ura M} (𝓛 : Logic 𝓤) where
    none_had : (κs : Lfts n) (ss : List (Slot n)) (ks : Kepts ss) (a : Denots (types_at ss κs)) (ws : Fins κs ss ks a) (vss : Valss (types_at ss κs))
        → ent 𝓤 (emp 𝓤) (sem 𝓛 (has_of κs ss ks (spent ss ks) a ws vss))
    none_had κs [] ks a ws vss = id⊢ 𝓤 (emp 𝓤)
    none_had κs (s ∷ ss) ks a ws vss = via 𝓤 _ (emp∗ 𝓤 (emp 𝓤)) (mono_r 𝓤 (emp 𝓤) (none_had κs ss ks.1 a.1 ws.1 vss.1))

    going : (ss : List (Slot n)) (ks : Kepts ss) → Silents ss ks → AllGo 𝓛 n ss ks (spent ss ks)
    going [] ks quiet = tt
    going (s ∷ ss) ks quiet = (Goes-dropped 𝓛 n s ks.0 quiet.0, going ss ks.1 quiet.1)

abbrev pub dropped : (T : Ended) → Stays T.signature.params T.kept
dropped T = spent T.signature.params T.kept

module _ {M : Type 1} {𝓤 : Ura M} (𝓛 : Logic 𝓤) (T : Ended) (c : Clauses 𝓤 T) where
  abbrev pub WalkSpent : Contract 𝓤
  WalkSpent = walk_of 𝓛 T (dropped T) c

  module _ (y : WalkSpent.Ghost) (v : Val) (r : (type_at T.signature.result y.0.0).Denot) (ws : Lasts T y.0.0 y.0.3) where
    abbrev Own : Fml
    Own = (type_at T.signature.result y.0.0).own_val r (v ∷ [])

    abbrev Have : Fml
    Have = has_of y.0.0 T.signature.params T.kept (dropped T) y.0.3 ws y.0.4

    abbrev Clause : SProp 𝓤
    Clause = (c y.0.0 y.0.3).ensures y.1 r (at_exit T y.0.0 y.0.3 ws)

    -- the walk ends at the result r, last values ws, and a clause that is shown
    pub ends : ent 𝓤 (emp 𝓤) Clause → ent 𝓤 (sep 𝓤 (sem 𝓛 Own) (alive 𝓛 T.signature y.0.0 y.0.1)) (WalkSpent.post y v)
    ends told =
        qed 𝓛 (‵ Own ∷ raw (alive 𝓛 T.signature y.0.0 y.0.1) ∷ []) ∵
        suffices ! _ (ends_at 𝓛 T (dropped T) c y v r ws (fitting y.0.0 T.signature.params T.kept y.0.3 ws)) $
        use0 𝓛 (raw Clause) told $ use0 𝓛 (‵ Have) (none_had 𝓛 y.0.0 T.signature.params T.kept y.0.3 ws y.0.4) $
        move ! (0 ∷ 2 ∷ []) $ join ! $ move ! (2 ∷ 0 ∷ []) $ join ! $ done !

module _ {M : Type 1} {𝓤 : Ura M} (𝓛 : Logic 𝓤) (𝓜 : Model 𝓤 𝓛.H) (𝓡 : Running 𝓤 𝓛.H 𝓜) (names : Names) (T : Ended) (c : Clauses 𝓤 T)
    (sp : (κs : Lfts T.signature.lifetimes) → Spells (types_at T.signature.params κs)) where
  open 𝓛 use {H}

  pub meets_spent : ((κs : Lfts T.signature.lifetimes) → Tellss (types_at T.signature.params κs) (Ises (types_at T.signature.params κs)) (sp κs)) → Silents T.signature.params T.kept
      → (k : Name) (e : Fn) → Closed 𝓤 H (C 𝓛 𝓜 𝓡 names) (Λ 𝓛 𝓜 𝓡 names) k e → WalkOf 𝓛 𝓜 𝓡 names T (dropped T) c sp e
      → Meets 𝓛 T.signature (C 𝓛 𝓜 𝓡 names k) (closing 𝓛 T c)
  meets_spent tl quiet = meets 𝓛 𝓜 𝓡 names T (dropped T) c sp tl (going 𝓛 T.signature.params T.kept quiet)

-- ---- clauses that are facts
module _ {M : Type 1} (𝓤 : Ura M) where
  pub shown : (φ : Type 0) → φ → ent 𝓤 (emp 𝓤) (fact 𝓤 φ)
  shown φ x = fact_i 𝓤 φ (emp 𝓤) x

  pub both_shown : (φ ψ : Type 0) → φ × ψ → ent 𝓤 (emp 𝓤) (sep 𝓤 (fact 𝓤 φ) (fact 𝓤 ψ))
  both_shown φ ψ x = via 𝓤 _ (emp∗ 𝓤 (emp 𝓤)) (mono∗ 𝓤 (shown φ x.0) (shown ψ x.1))

  pub both_said : (φ ψ : Type 0) → ent 𝓤 (sep 𝓤 (fact 𝓤 φ) (fact 𝓤 ψ)) (fact 𝓤 (φ × ψ))
  both_said φ ψ = fact_use 𝓤 φ (fst∗ 𝓤 (fact 𝓤 φ) (fact 𝓤 ψ)) (λ x. fact_use 𝓤 ψ (snd∗ 𝓤 (fact 𝓤 φ) (fact 𝓤 ψ)) (λ z. fact_i 𝓤 (φ × ψ) _ (x, z)))

-- ---- a call
module _ {M : Type 1} {𝓤 : Ura M} (𝓛 : Logic 𝓤) (T : Ended) (c : Clauses 𝓤 T) where
  open 𝓛 use {H}

  abbrev pub Callee : Contract 𝓤
  Callee = triple_of 𝓛 T.signature (closing 𝓛 T c)

  module _ (y : Callee.Ghost) where
    abbrev Result : RattleType
    Result = type_at T.signature.result y.0.0

    abbrev Last : Type 0
    Last = Lasts T y.0.0 y.0.3

    abbrev Live : SProp 𝓤
    Live = alive 𝓛 T.signature y.0.0 y.0.1

    abbrev Asks : SProp 𝓤
    Asks = (c y.0.0 y.0.3).requires y.1

    abbrev Says : Result.Denot → Last → SProp 𝓤
    Says r zs = (c y.0.0 y.0.3).ensures y.1 r (at_exit T y.0.0 y.0.3 zs)

    -- the tokens as an entry of the context, what the clause that says the result tells, and how the result's machine value is spelled
    module _ (tokens : Item 𝓤) (live : mean 𝓛 tokens ≡ Live) (φ : Result.Denot → Last → Type 0) (says : (r : Result.Denot) (zs : Last) → ent 𝓤 (Says r zs) (fact 𝓤 (φ r zs)))
        (val : Result.Denot → Val) (tl : Tells Result (Is Result) (λ r. val r ∷ [])) where
      abbrev had : Result.Denot → Last → Val → List (Item 𝓤) → List (Item 𝓤)
      had r zs w Γ = ‵ (Result.own_val r (w ∷ [])) ∷ ‵ (lasts T y.0.0 y.0.3 zs) ∷ tokens ∷ Γ

      pub called_as : {K : Type 0} {Γ : List (Item 𝓤)} {E : Env 𝓤 H} {C : Calls 𝓤 H} {Λ : Loops 𝓤 H} {q : Post 𝓤 H} {f : Name} {xs : List Operand} {d : Place} {rest : Code}
          → K → FmC 𝓤 H 𝓛.laws C → Triple 𝓤 (C f) Callee → ent 𝓤 (emp 𝓤) Asks → Opds K 𝓛 (raw (Callee.pre y) ∷ Γ) E xs (Callee.args y)
          → ((r : Result.Denot) (zs : Last) → Is Result r (val r ∷ []) → φ r zs → Seq K 𝓛 (had r zs (val r) Γ) (lands C Λ E d (val r) rest q))
          → Seq K 𝓛 (tokens ∷ ‵ (owns (types_at T.signature.params y.0.0) y.0.3 y.0.4) ∷ Γ) (runs C Λ E (seq (call f xs d) rest) q)
      called_as {K} {Γ} {E} {C} {Λ} {q} {f} {xs} {d} {rest} t fm met asked os k =
          use0 𝓛 (raw Asks) asked $ move t (1 ∷ []) $ recast 𝓛 (raw Live) live $ move t (0 ∷ 2 ∷ 1 ∷ []) $ join t $
          use2 𝓛 (raw (Callee.pre y)) (id⊢ 𝓤 _) $ calls_at t fm Callee met y os (λ w.
          use1 𝓛 (later (some (λ (r : Result.Denot). (raw Live ⊛ ‵ (Result.own_val r (w ∷ []))) ⊛ some (λ (zs : Last). ‵ (lasts T y.0.0 y.0.3 zs) ⊛ raw (Says r zs))))) (id⊢ 𝓤 _) $ await t tt $
          pick t (λ r. split t $ move t (1 ∷ []) $ pick t (λ zs. split t $ move t (1 ∷ []) $ use1 𝓛 (raw (fact 𝓤 (φ r zs))) (says r zs) $ heard t (φ r zs) (λ e.
          move t (1 ∷ []) $ split t $ recast 𝓛 tokens (sym live) $ move t (1 ∷ []) $ peeks t Result (Is Result) (shows 𝓛 Result) r (w ∷ []) (λ is. move t (0 ∷ 2 ∷ 1 ∷ []) $
          subst (λ (u : Val). Seq K 𝓛 (had r zs u Γ) (lands C Λ E d u rest q)) (sym (ap only (tl r (w ∷ []) is))) (k r zs (subst (Is Result r) (tl r (w ∷ []) is) is) e))))))

    -- the same where the clauses are facts
    module _ (tokens : Item 𝓤) (live : mean 𝓛 tokens ≡ Live) (ψ : Type 0) (asks : Asks ≡ fact 𝓤 ψ)
        (φ : Result.Denot → Last → Type 0) (says : (r : Result.Denot) (zs : Last) → Says r zs ≡ fact 𝓤 (φ r zs))
        (val : Result.Denot → Val) (tl : Tells Result (Is Result) (λ r. val r ∷ [])) where
      abbrev told : (r : Result.Denot) (zs : Last) → ent 𝓤 (Says r zs) (fact 𝓤 (φ r zs))
      told r zs = subst (ent 𝓤 (Says r zs)) (says r zs) (id⊢ 𝓤 _)

      pub called : {K : Type 0} {Γ : List (Item 𝓤)} {E : Env 𝓤 H} {C : Calls 𝓤 H} {Λ : Loops 𝓤 H} {q : Post 𝓤 H} {f : Name} {xs : List Operand} {d : Place} {rest : Code}
          → K → FmC 𝓤 H 𝓛.laws C → Triple 𝓤 (C f) Callee → ψ → Opds K 𝓛 (raw (Callee.pre y) ∷ Γ) E xs (Callee.args y)
          → ((r : Result.Denot) (zs : Last) → Is Result r (val r ∷ []) → φ r zs → Seq K 𝓛 (had tokens live φ told val tl r zs (val r) Γ) (lands C Λ E d (val r) rest q))
          → Seq K 𝓛 (tokens ∷ ‵ (owns (types_at T.signature.params y.0.0) y.0.3 y.0.4) ∷ Γ) (runs C Λ E (seq (call f xs d) rest) q)
      called t fm met x os k = called_as tokens live φ told val tl t fm met (subst (ent 𝓤 (emp 𝓤)) (sym asks) (fact_i 𝓤 ψ (emp 𝓤) x)) os k

-- ---- a struct behind a `&mut`, and in a local that is lent
abbrev pub lent : {X : Type 0} → ℕ → ℕ → GName → X → MutBor X
lent b o γ h = record { ref_ptr = (b, o); ghost_name = γ; now = h }

module _ (N : Declared) (L : LL.Laws N) where
  abbrev R : RattleType
  R = row N

  abbrev val : N.D → Val
  val = LL.val N L

  abbrev vals : N.D → List Val
  vals = LL.vals N L

  pub typed : {M : Type 1} {𝓤 : Ura M} → (𝓛 : Logic 𝓤) → (h : N.D) → Is R h (vals h) → Holds (has_ty (lone R.mir) (val h)) × WT (val h)
  typed {M} {𝓤} 𝓛 h is = ((LL.lawful N L 𝓛).typed h (vals h) is).0

  abbrev Ref : Lifetime → Lft → ℕ → ℕ → GName → N.D → Fml
  Ref ℓ κ b o γ h = (MutRef ℓ κ R).own_val (lent b o γ h) (vptr b o ∷ [])

  module _ {M : Type 1} {𝓤 : Ura M} {𝓛 : Logic 𝓤} {K : Type 0} {Γ : List (Item 𝓤)} {G : Goal 𝓤 𝓛.H} where
    pub opened : K → Soaks G → (ℓ : Lifetime) {κ : Lft} {q : Share} (b o : ℕ) (γ : GName) (h : N.D)
        → (Is R h (vals h) → Seq K 𝓛 (‵ (cell_at full_share R.mir (vals h) b o) ∷ ‵ (R.own_val h (vals h)) ∷ ‵ (fobor κ q (Body (mem R) b o γ)) ∷ ‵ (fobs γ (R.coded.code h)) ∷ ‵ (fauth γ (R.coded.code h)) ∷ Γ) G)
        → Seq K 𝓛 (‵ (Ref ℓ κ b o γ h) ∷ ‵ (flft κ q) ∷ Γ) G
    opened t z ℓ b o γ h k =
        fsplit3 t $ feq_l t (λ _. opens t z R b o (λ vs. spelt t R (Is R) (shows 𝓛 R) vals (LL.tells N L) full_share h vs b o $
        move t (1 ∷ []) $ peeks t R (Is R) (shows 𝓛 R) h (vals h) (λ is. move t (1 ∷ 0 ∷ []) $ k is)))

    pub shut : K → Soaks G → (ℓ : Lifetime) {κ : Lft} {q : Share} {u v : Gv} (b o : ℕ) (γ : GName) (h : N.D)
        → Step K 𝓛 (‵ (Ref ℓ κ b o γ h) ∷ ‵ (flft κ q) ∷ Γ) G
        (‵ (cell_at full_share R.mir (vals h) b o) ∷ ‵ (R.own_val h (vals h)) ∷ ‵ (fobor κ q (Body (mem R) b o γ)) ∷ ‵ (fobs γ u) ∷ ‵ (fauth γ v) ∷ Γ) G
    shut t z ℓ b o γ h = step (λ s. closes t z R h (vals h) b o $ feq_i t (List Val) (vptr b o ∷ []) (vptr b o ∷ []) refl $ fjoin3 t $ s)

    -- the local's type τ is the struct's but for the names of lifetimes
    module _ (τ : Ty) (same : raw_ty (lone R.mir) ≡ raw_ty τ) where
      pub lends : K → Soaks G → (ℓ : Lifetime) (κ : Lft) (b o : ℕ) (h : N.D) → ((γ : GName) → Seq K 𝓛 (‵ (Ref ℓ κ b o γ h) ∷ ‵ (flent κ (Body (mem R) b o γ)) ∷ Γ) G)
          → Seq K 𝓛 (‵ (fat full_share τ b o (val h)) ∷ ‵ (R.own_val h (vals h)) ∷ Γ) G
      unfolding part_of
      lends t z ℓ κ b o h k =
          use1 𝓛 (‵ (fat full_share (raw_ty τ) b o (val h))) (𝓛.laws.at_raw full_share τ b o (val h)) $ rewrite t 0 (λ (ρ : Ty). ‵ (cell_raw full_share (ρ ∷ []) (vals h) b o)) (sym same) refl $
          fjoin t $ fpack t (List Val) (λ vs. fsep (cell_at full_share R.mir vs b o) (R.own_val h vs)) (vals h) $
          use1 𝓛 (later (some (λ (γ : GName). ‵ (Ref ℓ κ b o γ h) ⊛ ‵ (flent κ (Body (mem R) b o γ))))) (lends_ref 𝓛 R ℓ κ h b o) $ await t z $ pick t (λ γ. split t $ k γ)

      pub takes_back : K → Soaks G → (α b o : ℕ) (γ : GName) (h : N.D) → (Is R h (vals h) → Seq K 𝓛 (‵ (fat full_share τ b o (val h)) ∷ ‵ (R.own_val h (vals h)) ∷ Γ) G)
          → Seq K 𝓛 (‵ (flft (α ∷ []) full_share) ∷ ‵ (flent (α ∷ []) (Body (mem R) b o γ)) ∷ ‵ (fres γ (R.coded.code h)) ∷ Γ) G
      unfolding part_of
      takes_back t z α b o γ h k =
          lft_end t z $ use3 𝓛 (later (‵ ((mem R).own_at h b o))) (ref_back 𝓛 R (α ∷ []) γ h b o) $ await t z $ fpick t (λ vs. fsplit t $
          spelt t R (Is R) (shows 𝓛 R) vals (LL.tells N L) full_share h vs b o $ move t (1 ∷ []) $ peeks t R (Is R) (shows 𝓛 R) h (vals h) (λ is. move t (1 ∷ 0 ∷ []) $
          rewrite t 0 (λ (ρ : Ty). ‵ (cell_raw full_share (ρ ∷ []) (vals h) b o)) same refl $ use1 𝓛 (‵ (fat full_share τ b o (val h))) (𝓛.laws.raw_at full_share τ b o (val h)) $ k is))

-- ---- the locals are freed
module _ {M : Type 1} {𝓤 : Ura M} (𝓛 : Logic 𝓤) where
  -- the locals at their values, the last one first
  open 𝓛 use {H}

  abbrev pub locals : Env 𝓤 H → List Val → List (Item 𝓤) → List (Item 𝓤)
  locals [] vs Γ = Γ
  locals (e ∷ E) [] Γ = ‵ ffalse ∷ Γ
  locals (e ∷ E) (v ∷ vs) Γ = locals E vs (‵ (fat full_share e.0 e.1 0 v) ∷ ‵ (fdies e.0 e.1) ∷ Γ)

  -- the first m entries, and those behind them
  abbrev pub front : ℕ → List (Item 𝓤) → List (Item 𝓤)
  front zero Γ = []
  front (suc m) [] = []
  front (suc m) (i ∷ Γ) = i ∷ front m Γ

  abbrev pub behind : ℕ → List (Item 𝓤) → List (Item 𝓤)
  behind zero Γ = Γ
  behind (suc m) [] = []
  behind (suc m) (i ∷ Γ) = behind m Γ

  parts : (m : ℕ) (Γ : List (Item 𝓤)) → ent 𝓤 (⋆ 𝓛 Γ) (sep 𝓤 (⋆ 𝓛 (front m Γ)) (⋆ 𝓛 (behind m Γ)))
  parts zero Γ = emp∗ 𝓤 (⋆ 𝓛 Γ)
  parts (suc m) [] = emp∗ 𝓤 (emp 𝓤)
  parts (suc m) (i ∷ Γ) =
      via 𝓤 _ (pop 𝓛 i Γ)
      (via 𝓤 _ (mono_r 𝓤 (mean 𝓛 i) (parts m Γ))
      (via 𝓤 _ (assoc' 𝓤 (mean 𝓛 i) (⋆ 𝓛 (front m Γ)) (⋆ 𝓛 (behind m Γ))) (mono_l 𝓤 (⋆ 𝓛 (behind m Γ)) (push 𝓛 i (front m Γ)))))

  abbrev room_of : Ty × ℕ → SProp 𝓤
  room_of e = sep 𝓤 (H.room e.0 e.1 0) (H.dies e.0 e.1)

  abbrev rooms : Env 𝓤 H → SProp 𝓤
  rooms [] = emp 𝓤
  rooms (e ∷ E) = sep 𝓤 (room_of e) (rooms E)

  emptied : (E : Env 𝓤 H) (vs : List Val) (Γ : List (Item 𝓤)) → ent 𝓤 (⋆ 𝓛 (locals E vs Γ)) (sep 𝓤 (rooms E) (⋆ 𝓛 Γ))
  emptied [] vs Γ = emp∗ 𝓤 (⋆ 𝓛 Γ)
  emptied (e ∷ E) [] Γ = via 𝓤 _ (pop 𝓛 (‵ ffalse) Γ) (via 𝓤 (never 𝓤) (fst∗ 𝓤 (never 𝓤) (⋆ 𝓛 Γ)) (never_e 𝓤 _))
  emptied (e ∷ E) (v ∷ vs) Γ =
      via 𝓤 _ (emptied E vs (‵ (fat full_share e.0 e.1 0 v) ∷ ‵ (fdies e.0 e.1) ∷ Γ))
      (qed 𝓛 (raw (rooms E) ∷ ‵ (fat full_share e.0 e.1 0 v) ∷ ‵ (fdies e.0 e.1) ∷ Γ) ∵ forget ! 1 refl $ move ! (1 ∷ 2 ∷ []) $ join ! $ join ! $
      by ! (pop 𝓛 ((‵ (froom e.0 e.1 0) ⊛ ‵ (fdies e.0 e.1)) ⊛ raw (rooms E)) Γ))

  released : (E : Env 𝓤 H) (P : SProp 𝓤) → ent 𝓤 (sep 𝓤 (rooms E) P) (release 𝓤 H E P)
  released [] P = snd∗ 𝓤 (emp 𝓤) P
  released (e ∷ E) P = via 𝓤 _ (assoc∗ 𝓤 (room_of e) (rooms E) P) (mono_r 𝓤 (room_of e) (released E P))

pub freed : {M : Type 1} {𝓤 : Ura M} {𝓛 : Logic 𝓤} {K : Type 0} {Γ : List (Item 𝓤)} {E : Env 𝓤 𝓛.H} {g : Goal 𝓤 𝓛.H}
    → K → (m : ℕ) (vs : List Val) → behind 𝓛 m Γ ≡ locals 𝓛 E vs [] → Step K 𝓛 (front 𝓛 m Γ) g Γ (frees E g)
freed {M} {𝓤} {𝓛} {K} {Γ} {E} {g} t m vs e = step (λ s. by t
    (via 𝓤 _ (parts 𝓛 m Γ)
    (via 𝓤 _ (mono_r 𝓤 (⋆ 𝓛 (front 𝓛 m Γ)) (subst (λ (Δ : List (Item 𝓤)). ent 𝓤 (⋆ 𝓛 Δ) (sep 𝓤 (rooms 𝓛 E) (emp 𝓤))) (sym e) (emptied 𝓛 E vs [])))
    (via 𝓤 _ (mono∗ 𝓤 s.prf (fst∗ 𝓤 (rooms 𝓛 E) (emp 𝓤))) (via 𝓤 _ (comm∗ 𝓤 (aim 𝓤 𝓛.H g) (rooms 𝓛 E)) (released 𝓛 E (aim 𝓤 𝓛.H g)))))))
