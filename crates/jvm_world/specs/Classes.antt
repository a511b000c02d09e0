-- The classes of which the machine makes objects by itself: its exceptions, and the class of
-- classes.
use Rattle.std.specs.Prelude.{◌≡◌, ℕ, List, [], ◌∷◌, map}
use Rattle.std.proofs.Common.{get_or}
use Rattle.program_rules.specs.declared.fault.Fault.{Fault}
use Rattle.program_rules.specs.declared.fault.Fault.TheVariants as fault
use Rattle.program_rules.specs.Faults.{fault_name}
use Rattle.program_rules.specs.Names.{Name, class_name}
use Rattle.class_link.specs.Info.{Info}
use Rattle.class_table.specs.Table.{name_at}

-- The place of an exception in the table.
abbrev pub fault_place : Fault → ℕ
fault_place fault.StackOverflowError = 0
fault_place fault.AssertionError = 1
fault_place fault.NullPointerException = 2
fault_place fault.NoClassDefFoundError = 3
fault_place fault.NoSuchFieldError = 4
fault_place fault.NoSuchMethodError = 5
fault_place fault.IncompatibleClassChangeError = 6
fault_place fault.AbstractMethodError = 7
fault_place fault.InstantiationError = 8
fault_place fault.ExceptionInInitializerError = 9
fault_place fault.ArithmeticException = 10
fault_place fault.ArrayIndexOutOfBoundsException = 11
fault_place fault.NegativeArraySizeException = 12
fault_place fault.ArrayStoreException = 13
fault_place fault.ClassCastException = 14
fault_place fault.IllegalMonitorStateException = 15
fault_place fault.IndexOutOfBoundsException = 16
fault_place fault.StringIndexOutOfBoundsException = 17
fault_place fault.IllegalArgumentException = 18
fault_place fault.NumberFormatException = 19
fault_place fault.UnsupportedOperationException = 20
fault_place fault.NoSuchElementException = 21

-- The names in the table: the exceptions by their places, and `java/lang/Class`.
abbrev pub machine_names : List Name
machine_names =
    fault_name fault.StackOverflowError
    ∷ fault_name fault.AssertionError
    ∷ fault_name fault.NullPointerException
    ∷ fault_name fault.NoClassDefFoundError
    ∷ fault_name fault.NoSuchFieldError
    ∷ fault_name fault.NoSuchMethodError
    ∷ fault_name fault.IncompatibleClassChangeError
    ∷ fault_name fault.AbstractMethodError
    ∷ fault_name fault.InstantiationError
    ∷ fault_name fault.ExceptionInInitializerError
    ∷ fault_name fault.ArithmeticException
    ∷ fault_name fault.ArrayIndexOutOfBoundsException
    ∷ fault_name fault.NegativeArraySizeException
    ∷ fault_name fault.ArrayStoreException
    ∷ fault_name fault.ClassCastException
    ∷ fault_name fault.IllegalMonitorStateException
    ∷ fault_name fault.IndexOutOfBoundsException
    ∷ fault_name fault.StringIndexOutOfBoundsException
    ∷ fault_name fault.IllegalArgumentException
    ∷ fault_name fault.NumberFormatException
    ∷ fault_name fault.UnsupportedOperationException
    ∷ fault_name fault.NoSuchElementException
    ∷ class_name
    ∷ []

-- These numbers are those of the classes of the table.
abbrev pub AreMachineClasses : List Info → List ℕ → Type 0
AreMachineClasses p ids = map (name_at p) ids ≡ machine_names

-- The number of an exception's class.
abbrev pub fault_id : Fault → List ℕ → ℕ
fault_id fault ids = get_or ids (fault_place fault) 0
