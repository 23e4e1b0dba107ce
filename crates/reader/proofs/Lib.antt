mod Readers
