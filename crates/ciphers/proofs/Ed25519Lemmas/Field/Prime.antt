-- 2^255 - 19 is prime, by a chain of smaller primes.
use Rattle.std.proofs.Common.{refl, arith, ◌-◌, ◌^◌}
use Rattle.ciphers.proofs.Ed25519Lemmas.Field.Divisors.{IsPrime, prime_by_trial}
use Rattle.ciphers.proofs.Ed25519Lemmas.Field.Pocklington.{pocklington}
use Rattle.ciphers.proofs.Ed25519Lemmas.Field.Power.{quick}

prime_of_3_digits : IsPrime 991
prime_of_3_digits = prime_by_trial 989 refl

prime_of_7_digits : IsPrime 8574133
unfolding quick
prime_of_7_digits = pocklington 991 8652 3435728 1014251 10 prime_of_3_digits (omega arith) (omega arith) refl refl (omega arith)

prime_of_16_digits : IsPrime 1919519569386763
unfolding quick
prime_of_16_digits =
    pocklington 8574133 223873314 1059928654987440 1290547218147893 24
    prime_of_7_digits (omega arith) (omega arith) refl refl (omega arith)

prime_of_35_digits : IsPrime 75445702479781427272750846543864801
unfolding quick
prime_of_35_digits =
    pocklington 1919519569386763 39304471641247389600 56747016255153332959347766392083458 74602835786463724888147869570305675 51
    prime_of_16_digits (omega arith) (omega arith) refl refl (omega arith)

prime_of_71_digits : IsPrime 74058212732561358302231226437062788676166966415465897661863160754340907
unfolding quick
prime_of_71_digits =
    pocklington 75445702479781427272750846543864801 981609426360740691344999861639072106
    69490809710348678725736597923071784769591275419387514694139338586948359
    70463328703800545008217672123162676565183935400628861884889913886334520 116
    prime_of_35_digits (omega arith) (omega arith) refl refl (omega arith)

pub prime_is : IsPrime (2 ^ 255 - 19)
unfolding quick
prime_is =
    pocklington 74058212732561358302231226437062788676166966415465897661863160754340907 781764
    427094198651976259540344842774561673889945192655078505504941250475370961480
    55540832096118778044507775605005710249233119951144946814680141076505643269084 236
    prime_of_71_digits (omega arith) (omega arith) refl refl (omega arith)
