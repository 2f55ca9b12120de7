mod OfOneThing
