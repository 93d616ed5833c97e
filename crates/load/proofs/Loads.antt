-- What a load answers, by what its checks found. Assumes nothing.
use Rattle.std.proofs.Common.{◌≡◌, ℕ, ◌+◌, ◌*◌, ◌<◌, ◌≤◌, Bool, true, false, List, ◌++◌, length, take, drop, Some, None, sym, refl, ap, ◌∙◌, subst, arith}
use Rattle.std.proofs.lemmas.List.{take_at}
use Rattle.std.proofs.lemmas.Bool.Decides.{nat_tests}
use Rattle.layout.specs.declared.record.Record.{Record}
use Rattle.layout.specs.declared.limits.Limits.{Limits}
use Rattle.layout.specs.declared.fault.LoadFault.{LoadFault}
use Rattle.layout.specs.declared.fault.LoadFault.TheVariants.{Short, OutOfRange, WrongLength, OffLine, Misplaced, TooDeep, SmallTable}
use Rattle.layout.specs.Rules.{Parts, sized, Kept, Ruled, FirstBreak}
use Rattle.layout.specs.Scan.{first_fault}
use Rattle.layout.proofs.Scans.{told_at, lawful_faultless}
use Rattle.load.specs.Files.{N, L1, L2, after_head, records_of, Encodes, Takes, shown, Accepted, load_fault, Headed, InRange, RightLength, Roomy, Fails, Refused, Split}
use Rattle.load.proofs.Files.{records_length, held_in, names_length, strings_length, encodes, encodes_only}

module _ (lim : Limits) (f : List ℕ) (places : ℕ) where
  same_sizes : (n l m : ℕ) → N f ≡ n → L1 f ≡ l → L2 f ≡ m → sized lim (N f) (L1 f) (L2 f) ≡ sized lim n l m
  same_sizes n l m a b c = rw (a, b, c) refl

  -- the checks in their order
  short : length f < 12 → load_fault lim f places ≡ Some Short
  unfolding load_fault
  short lt = grind (arith, nat_tests)

  out_of_range : Headed lim f places → sized lim (N f) (L1 f) (L2 f) ≡ false → load_fault lim f places ≡ Some OutOfRange
  unfolding load_fault
  out_of_range le e = rw e (grind (arith, nat_tests))

  wrong_length : InRange lim f places → (length (after_head f) ≡ 32 * N f + L1 f + L2 f → ⊥) → load_fault lim f places ≡ Some WrongLength
  unfolding load_fault
  wrong_length r ne = let e = r.1 in rw e (grind (arith, nat_tests))

  small_table : RightLength lim f places → places < N f → load_fault lim f places ≡ Some SmallTable
  unfolding load_fault
  small_table r lt = rw r.0.1 (grind (arith, nat_tests))

  checked : Roomy lim f places → load_fault lim f places ≡ first_fault (L1 f) (L2 f) lim.depth (records_of (N f) (after_head f))
  unfolding load_fault
  checked r = rw r.0.0.1 (grind (arith, nat_tests))

  -- what may be taken passes every check
  taken_faultless : (p : Parts) → Takes lim f places p → load_fault lim f places ≡ None
  taken_faultless p t =
      let e = t.encodes in
      let size : length (after_head f) ≡ 32 * N f + L1 f + L2 f = omega (arith, e.size, e.count, e.names_size, e.strings_size) in
      let roomy : Roomy lim f places = (((e.head, same_sizes _ _ _ e.count e.names_size e.strings_size ∙ t.kept.sizes), size), omega (arith, e.count, t.fits)) in
      let k : Kept lim (held_in f) = subst (Kept lim) (encodes_only f p e) t.kept in
      let law : (i : ℕ) → i < length (records_of (N f) (after_head f)) → Ruled (L1 f) (L2 f) lim.depth (records_of (N f) (after_head f)) i = rw (names_length f e.head size, strings_length f e.head size) at k.each in
      checked roomy ∙ lawful_faultless (L1 f) (L2 f) lim.depth (records_of (N f) (after_head f)) law

  broken : (x : LoadFault) → Roomy lim f places → FirstBreak (L1 f) (L2 f) lim.depth (records_of (N f) (after_head f)) x → Fails lim f places x
  broken (OffLine i) r b = (r, b)
  broken (Misplaced i) r b = (r, b)
  broken (TooDeep i) r b = (r, b)
  broken Short r b = absurd b
  broken OutOfRange r b = absurd b
  broken WrongLength r b = absurd b
  broken SmallTable r b = absurd b

-- where the head is taken apart
module _ (lim : Limits) (f : List ℕ) (before : List Record) where
  refused : (x : LoadFault) → load_fault lim f (length before) ≡ Some x → Fails lim f (length before) x → Refused lim f before before x
  refused x e fails = record { first = e; fails = fails; same = refl; none = λ p t. let n = taken_faultless lim f (length before) p t in cc }

  pub refused_short : length f < 12 → Refused lim f before before Short
  refused_short lt = refused Short (short lim f (length before) lt) lt

  module _ (n l m : ℕ) (rest : List ℕ) (s : Split f n l m rest) where
    sizes : (b : Bool) → b ≡ sized lim n l m → sized lim (N f) (L1 f) (L2 f) ≡ b
    sizes b e = same_sizes lim f (length before) n l m (sym s.count) (sym s.names) (sym s.strings) ∙ sym e

    total : 32 * N f + L1 f + L2 f ≡ 32 * n + l + m
    total = omega (arith, s.count, s.names, s.strings)

    pub refused_range : false ≡ sized lim n l m → Refused lim f before before OutOfRange
    refused_range e = refused OutOfRange (out_of_range lim f (length before) s.head (sizes false e)) (s.head, sizes false e)

    module _ (range : true ≡ sized lim n l m) where
      in_range : InRange lim f (length before)
      in_range = (s.head, sizes true range)

      pub refused_length : (length rest ≡ 32 * n + l + m → ⊥) → Refused lim f before before WrongLength
      refused_length ne =
          let off : length (after_head f) ≡ 32 * N f + L1 f + L2 f → ⊥ = λ e. ne (ap length s.follows ∙ e ∙ total) in
          refused WrongLength (wrong_length lim f (length before) in_range off) (in_range, off)

      module _ (size : length rest ≡ 32 * n + l + m) where
        right_length : RightLength lim f (length before)
        right_length = (in_range, ap length (sym s.follows) ∙ size ∙ sym total)

        pub refused_table : length before < n → Refused lim f before before SmallTable
        refused_table lt =
            let few : length before < N f = omega (arith, s.count) in
            refused SmallTable (small_table lim f (length before) right_length few) (right_length, few)

        module _ (room : n ≤ length before) where
          roomy : Roomy lim f (length before)
          roomy = (right_length, omega (arith, s.count))

          -- the records that a check was made of
          module _ (rs : List Record) (from : rs ≡ records_of n rest) where
            held_records : rs ≡ records_of (N f) (after_head f)
            held_records = from ∙ ap (λ x. records_of x rest) s.count ∙ ap (records_of (N f)) s.follows

            same_fault : first_fault l m lim.depth rs ≡ first_fault (L1 f) (L2 f) lim.depth (records_of (N f) (after_head f))
            same_fault = rw (s.names, s.strings, held_records) refl

            -- one breaks a rule
            pub refused_record : (x : LoadFault) → Some x ≡ first_fault l m lim.depth rs → Refused lim f before before x
            refused_record x e =
                let found = e ∙ same_fault in
                refused x (checked lim f (length before) roomy ∙ sym found) (broken lim f (length before) x roomy (told_at (L1 f) (L2 f) lim.depth (records_of (N f) (after_head f)) (Some x) found))

            -- none does, and they are copied
            pub accepted : (k : ℕ) (after : List Record) (pools ns ss : List ℕ) → None ≡ first_fault l m lim.depth rs → k ≡ n → after ≡ rs ++ drop k before →
                pools ≡ drop (32 * n) rest → ns ≡ take l pools → ss ≡ drop l pools → Accepted lim f before after n ns ss
            accepted k after pools ns ss none k_is after_is pools_are names strings = record {
              takes = record { encodes = subst (Encodes f) (sym is) enc; kept = subst (Kept lim) (sym is) held_kept; fits = subst (λ (p : Parts). length p.records ≤ length before) (sym is) (omega (arith, records_length (N f) (after_head f), s.count)) };
              only = λ p e. encodes_only f p e ∙ sym is;
              count = sym (ap length records ∙ records_length (N f) (after_head f) ∙ sym s.count);
              later = copied ∙ ap (λ xs. xs ++ drop n before) (held_records ∙ sym records);
            }
              where
                copied : after ≡ rs ++ drop n before
                copied = after_is ∙ ap (λ j. rs ++ drop j before) k_is

                records : take n after ≡ records_of (N f) (after_head f)
                records = ap (take n) copied ∙ take_at rs (drop n before) n (ap length from ∙ records_length n rest) ∙ held_records

                is : shown n after ns ss ≡ held_in f
                is =
                    let a = s.count in
                    let b = s.names in
                    let d = s.follows in
                    cc (records, pools_are, names, strings)

                enc : Encodes f (held_in f)
                enc = encodes f s.head right_length.1

                law : (i : ℕ) → i < length (records_of (N f) (after_head f)) → Ruled (L1 f) (L2 f) lim.depth (records_of (N f) (after_head f)) i
                law = told_at (L1 f) (L2 f) lim.depth (records_of (N f) (after_head f)) None (none ∙ same_fault)

                held_kept : Kept lim (held_in f)
                held_kept = record {
                  sizes = sym (same_sizes lim f (length before) _ _ _ enc.count enc.names_size enc.strings_size) ∙ in_range.1;
                  each = rw (← enc.names_size, ← enc.strings_size) law;
                }
