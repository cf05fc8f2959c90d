mod Preparing
